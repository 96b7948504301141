use Rattle.nq_kernel.proofs.GrowingLemmas.{WorkGrows-refl}
use Rattle.std.proofs.Common.{subst, sym, ◌∙◌, List}
use Rattle.std.specs.Prelude.{IfOk}
use Rattle.nq_bank.specs.Content.{term_at, terms_at}
use Rattle.nq_bank.specs.declared.node.TermId.{TermId}
use Rattle.nq_reduce.specs.Rewriting.{CanRewrite, IsRewritten}
use Rattle.nq_reduce.proofs.RewritingLemmas.{can_more}
use Rattle.nq_reduce.proofs.truths.true_under.Goals as goal

pub returns-in_err-all-clause-grows : goal.returns-in_err-all-clause-grows
returns-in_err-all-clause-grows c = WorkGrows-refl c.args.history.now c.args.work.now c.requires.can.stands

pub true_by_row-requires : goal.true_by_row-requires
true_by_row-requires c = record { can = subst (λ ts. CanRewrite c.args.history.now c.args.work.now ts c.args.t) (sym c.in_ok-all.ensures.ok ∙ sym c.as_slice.ensures.value) (can_more c.args.history.now c.args.assumed.now c.args.work.now c.args.t c.args.t c.requires.can c.requires.can.term) }

pub returns-clause-ok : goal.returns-clause-ok
returns-clause-ok c = subst (λ (all : List TermId). IfOk c.true_by_row.result (IsRewritten c.args.history.now c.true_by_row.new.work (terms_at c.args.work.now.bank all) (term_at c.args.work.now.bank c.args.t))) (c.as_slice.ensures.value ∙ c.in_ok-all.ensures.ok) c.true_by_row.ensures.ok
