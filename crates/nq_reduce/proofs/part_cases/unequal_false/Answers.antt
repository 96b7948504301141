use Rattle.nq_kernel.proofs.GrowingLemmas.{WorkGrows-refl}
use Rattle.std.proofs.Common.{subst, sym, ◌∷◌, ◌∙◌, List}
use Rattle.std.specs.Prelude.{IfOk}
use Rattle.nq_bank.specs.Content.{term_at, terms_at}
use Rattle.nq_bank.specs.declared.node.TermId.{TermId}
use Rattle.nq_logic.specs.Words.{not_term}
use Rattle.nq_lines.specs.Lines.{LineHasOnly}
use Rattle.nq_reduce.specs.Rewriting.{CanRewrite, IsRewritten, denials}
use Rattle.nq_reduce.proofs.RewritingLemmas.{can_more}
use Rattle.nq_reduce.proofs.part_cases.unequal_false.Goals as goal

pub returns-in_err-all-clause-grows : goal.returns-in_err-all-clause-grows
returns-in_err-all-clause-grows c = WorkGrows-refl c.args.history.now c.args.work.now c.requires.can.stands

pub false_by_line-requires-clause-can : goal.false_by_line-requires-clause-can
false_by_line-requires-clause-can c = subst (λ ts. CanRewrite c.args.history.now c.args.work.now ts c.args.t) (sym c.in_ok-all.ensures.ok ∙ sym c.as_slice.ensures.value) (can_more c.args.history.now c.args.assumed.now c.args.work.now c.args.denied c.args.t c.requires.can c.requires.over)

pub false_by_line-requires-clause-line : goal.false_by_line-requires-clause-line
false_by_line-requires-clause-line c = subst (λ (ts : List TermId). LineHasOnly c.args.work.now c.args.line (not_term (term_at c.args.work.now.bank c.args.t) ∷ denials (terms_at c.args.work.now.bank ts))) (sym c.in_ok-all.ensures.ok ∙ sym c.as_slice.ensures.value) c.requires.line

pub returns-clause-ok : goal.returns-clause-ok
returns-clause-ok c = subst (λ (all : List TermId). IfOk c.false_by_line.result (IsRewritten c.args.history.now c.false_by_line.new.work (terms_at c.args.work.now.bank all) (term_at c.args.work.now.bank c.args.t))) (c.as_slice.ensures.value ∙ c.in_ok-all.ensures.ok) c.false_by_line.ensures.ok
