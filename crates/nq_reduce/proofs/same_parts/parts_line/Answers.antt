use Rattle.nq_kernel.proofs.GrowingLemmas.{WorkGrows-refl}
use Rattle.std.proofs.Common.{subst, sym, ◌∙◌, List}
use Rattle.std.specs.Prelude.{IfSome, IfOk}
use Rattle.nq_bank.specs.Content.{term_at, terms_at}
use Rattle.nq_bank.specs.declared.node.TermId.{TermId}
use Rattle.nq_reduce.specs.Equations.{IsAssumed}
use Rattle.nq_reduce.specs.Rewriting.{CanRewrite, ShowsEqual}
use Rattle.nq_reduce.proofs.RewritingLemmas.{can_term, can_more}
use Rattle.nq_reduce.proofs.StepLemmas.{first_assumed}
use Rattle.nq_reduce.proofs.same_parts.parts_line.Goals as goal

pub returns-in_err-all-clause-grows : goal.returns-in_err-all-clause-grows
returns-in_err-all-clause-grows c = WorkGrows-refl c.args.history.now c.args.work.now c.requires.can.stands

pub parts_under-requires-clause-can : goal.parts_under-requires-clause-can
parts_under-requires-clause-can c = subst (λ ts. CanRewrite c.args.history.now c.args.work.now ts c.args.a) (sym c.in_ok-all.ensures.ok ∙ sym c.as_slice.ensures.value) (can_more c.args.history.now c.args.assumed.now c.args.work.now c.args.t c.args.a (can_term c.args.history.now c.args.work.now c.args.assumed.now c.args.t c.args.a c.requires.can c.requires.left.argument) c.requires.can.term)

pub parts_under-requires-clause-assumed : goal.parts_under-requires-clause-assumed
parts_under-requires-clause-assumed c = subst (λ ts. IsAssumed c.args.history.now c.args.work.now ts c.args.t) (sym c.in_ok-all.ensures.ok ∙ sym c.as_slice.ensures.value) (first_assumed c.args.history.now c.args.work.now c.args.assumed.now c.args.t c.requires.can)

pub parts_under-requires-clause-object : goal.parts_under-requires-clause-object
parts_under-requires-clause-object c = c.requires.sides.left

pub returns-clause-line : goal.returns-clause-line
returns-clause-line c = subst (λ (all : List TermId). IfOk c.parts_under.result (λ found. IfSome found (λ n. ShowsEqual c.parts_under.new.work n (terms_at c.args.work.now.bank all) (term_at c.args.work.now.bank c.args.a) (term_at c.args.work.now.bank c.args.b)))) (c.as_slice.ensures.value ∙ c.in_ok-all.ensures.ok) c.parts_under.ensures.line
