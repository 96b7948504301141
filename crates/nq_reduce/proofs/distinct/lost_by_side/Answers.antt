use Rattle.std.proofs.Common.{refl, sym, subst}
use Rattle.nq_bank.specs.Content.{term_at, terms_at}
use Rattle.nq_kernel.proofs.GrowingLemmas.{WorkGrows-trans, WorkGrows-refl}
use Rattle.nq_reduce.specs.Rewriting.{IsRewritten}
use Rattle.nq_reduce.proofs.RewritingLemmas.{can_grown, rewritten_now, told_before}
use Rattle.nq_reduce.proofs.distinct.lost_by_side.Goals as goal

pub congruent-requires-clause-new : goal.congruent-requires-clause-new
congruent-requires-clause-new c = subst (λ i. IsRewritten c.args.history.now c.args.work.now (terms_at c.args.work.now.bank c.args.assumed.now) (term_at c.args.work.now.bank i) c.args.other) (sym (c.if-is_same.ensures refl)) c.requires.other

pub lost_after-requires-clause-can : goal.lost_after-requires-clause-can
lost_after-requires-clause-can c = can_grown c.args.history.now c.args.work.now c.congruent.new.work c.congruent.ensures.grows c.args.assumed.now c.args.t c.requires.can

pub lost_after-requires-clause-moved : goal.lost_after-requires-clause-moved
lost_after-requires-clause-moved c = rewritten_now c.args.history.now c.args.assumed.now c.args.work.now c.congruent.new.work c.args.t c.in_ok-moved-in-Some.moved c.congruent.ensures.grows c.requires.can c.in_ok-moved-in-Some.ensures.ok

pub returns-in_ok-moved-in-Some-clause-ok : goal.returns-in_ok-moved-in-Some-clause-ok
returns-in_ok-moved-in-Some-clause-ok c = told_before c.args.history.now c.args.assumed.now c.args.work.now c.congruent.new.work c.lost_after.new.work c.args.t c.lost_after.result c.congruent.ensures.grows c.requires.can c.lost_after.ensures.ok

pub returns-in_ok-moved-in-Some-clause-grows : goal.returns-in_ok-moved-in-Some-clause-grows
returns-in_ok-moved-in-Some-clause-grows c = (WorkGrows-trans c.args.history.now c.args.work.now c.congruent.new.work c.lost_after.new.work c.congruent.ensures.grows c.lost_after.ensures.grows)

pub returns-else-is_same-clause-grows : goal.returns-else-is_same-clause-grows
returns-else-is_same-clause-grows c = WorkGrows-refl c.args.history.now c.args.work.now c.requires.can.stands

pub returns-in-None-clause-grows : goal.returns-in-None-clause-grows
returns-in-None-clause-grows c = WorkGrows-refl c.args.history.now c.args.work.now c.requires.can.stands
