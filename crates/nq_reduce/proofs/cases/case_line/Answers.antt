use Rattle.nq_kernel.proofs.GrowingLemmas.{WorkGrows-refl}
use Rattle.std.proofs.Common.{subst, sym, ◌∷◌, ◌∙◌, List}
use Rattle.std.specs.Prelude.{IfSome, IfOk}
use Rattle.nq_bank.specs.Content.{term_at, terms_at}
use Rattle.nq_bank.specs.declared.node.TermId.{TermId}
use Rattle.nq_lines.specs.Lines.{LineHasOnly}
use Rattle.nq_reduce.specs.Equations.{IsAssumed}
use Rattle.nq_reduce.specs.Rewriting.{CanRewrite, denials}
use Rattle.nq_reduce.proofs.RewritingLemmas.{can_term, can_more}
use Rattle.nq_reduce.proofs.StepLemmas.{first_assumed}
use Rattle.nq_reduce.proofs.cases.case_line.Goals as goal

pub returns-in_err-all-clause-grows : goal.returns-in_err-all-clause-grows
returns-in_err-all-clause-grows c = WorkGrows-refl c.args.history.now c.args.work.now c.requires.can.stands

pub case_under-requires-clause-can : goal.case_under-requires-clause-can
case_under-requires-clause-can c = subst (λ ts. CanRewrite c.args.history.now c.args.work.now ts c.args.kept) (sym c.in_ok-all.ensures.ok ∙ sym c.as_slice.ensures.value) (can_more c.args.history.now c.args.assumed.now c.args.work.now c.args.t c.args.kept (can_term c.args.history.now c.args.work.now c.args.assumed.now c.args.t c.args.kept c.requires.can c.requires.kept) c.requires.can.term)

pub case_under-requires-clause-assumed : goal.case_under-requires-clause-assumed
case_under-requires-clause-assumed c = subst (λ ts. IsAssumed c.args.history.now c.args.work.now ts c.args.t) (sym c.in_ok-all.ensures.ok ∙ sym c.as_slice.ensures.value) (first_assumed c.args.history.now c.args.work.now c.args.assumed.now c.args.t c.requires.can)

pub returns-clause-line : goal.returns-clause-line
returns-clause-line c = subst (λ (all : List TermId). IfOk c.case_under.result (λ found. IfSome found (λ n. LineHasOnly c.case_under.new.work n ((term_at c.args.work.now.bank c.args.kept) ∷ denials (terms_at c.args.work.now.bank all))))) (c.as_slice.ensures.value ∙ c.in_ok-all.ensures.ok) c.case_under.ensures.line
