use Rattle.nq_kernel.proofs.GrowingLemmas.{WorkGrows-refl}
use Rattle.std.proofs.Common.{subst, sym, ◌∙◌, List}
use Rattle.std.specs.Prelude.{IfSome, IfOk}
use Rattle.nq_bank.specs.Content.{term_at, terms_at}
use Rattle.nq_bank.specs.declared.node.TermId.{TermId}
use Rattle.nq_reduce.specs.Rewriting.{CanRewrite, IsKnown}
use Rattle.nq_reduce.proofs.RewritingLemmas.{can_more}
use Rattle.nq_reduce.proofs.restricted.told_under.Goals as goal

pub returns-in_err-all-clause-grows : goal.returns-in_err-all-clause-grows
returns-in_err-all-clause-grows c = WorkGrows-refl c.args.history.now c.args.work.now c.requires.can.stands

pub told_by_default-requires : goal.told_by_default-requires
told_by_default-requires c = record { can = subst (λ ts. CanRewrite c.args.history.now c.args.work.now ts c.args.t) (sym c.in_ok-all.ensures.ok ∙ sym c.as_slice.ensures.value) (can_more c.args.history.now c.args.assumed.now c.args.work.now c.args.denied c.args.t c.requires.can c.requires.over) }

pub returns-clause-known : goal.returns-clause-known
returns-clause-known c = subst (λ (all : List TermId). IfOk c.told_by_default.result (λ found. IfSome found (IsKnown c.told_by_default.new.work (terms_at c.args.work.now.bank all) (term_at c.args.work.now.bank c.args.t)))) (c.as_slice.ensures.value ∙ c.in_ok-all.ensures.ok) c.told_by_default.ensures.known
