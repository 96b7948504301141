use Rattle.nq_kernel.proofs.GrowingLemmas.{WorkGrows-refl}
use Rattle.std.proofs.Common.{subst, sym, ◌∙◌, List}
use Rattle.std.specs.Prelude.{IfOk}
use Rattle.nq_bank.specs.Content.{term_at, terms_at}
use Rattle.nq_bank.specs.declared.node.TermId.{TermId}
use Rattle.nq_reduce.specs.Equations.{IsAssumed}
use Rattle.nq_reduce.specs.Rewriting.{CanRewrite, IsRewritten}
use Rattle.nq_reduce.proofs.RewritingLemmas.{can_term, can_more}
use Rattle.nq_reduce.proofs.StepLemmas.{first_assumed}
use Rattle.nq_reduce.proofs.part_cases.equal_case.Goals as goal

pub returns-in_err-all-clause-grows : goal.returns-in_err-all-clause-grows
returns-in_err-all-clause-grows c = WorkGrows-refl c.args.history.now c.args.work.now c.requires.can.stands

pub equal_under-requires-clause-can : goal.equal_under-requires-clause-can
equal_under-requires-clause-can c = subst (λ ts. CanRewrite c.args.history.now c.args.work.now ts c.args.t) (sym c.in_ok-all.ensures.ok ∙ sym c.as_slice.ensures.value) (can_more c.args.history.now c.args.assumed.now c.args.work.now c.args.p c.args.t c.requires.can c.requires.test)

pub equal_under-requires-clause-assumed : goal.equal_under-requires-clause-assumed
equal_under-requires-clause-assumed c = subst (λ ts. IsAssumed c.args.history.now c.args.work.now ts c.args.p) (sym c.in_ok-all.ensures.ok ∙ sym c.as_slice.ensures.value) (first_assumed c.args.history.now c.args.work.now c.args.assumed.now c.args.p (can_term c.args.history.now c.args.work.now c.args.assumed.now c.args.t c.args.p c.requires.can c.requires.test))

pub returns-clause-ok : goal.returns-clause-ok
returns-clause-ok c = subst (λ (all : List TermId). IfOk c.equal_under.result (IsRewritten c.args.history.now c.equal_under.new.work (terms_at c.args.work.now.bank all) (term_at c.args.work.now.bank c.args.t))) (c.as_slice.ensures.value ∙ c.in_ok-all.ensures.ok) c.equal_under.ensures.ok
