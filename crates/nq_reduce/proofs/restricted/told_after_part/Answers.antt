use Rattle.nq_kernel.proofs.GrowingLemmas.{WorkGrows-trans}
use Rattle.nq_reduce.proofs.RewritingLemmas.{can_grown, rewritten_now}
use Rattle.nq_reduce.proofs.HeldLemmas.{known_told}
use Rattle.nq_reduce.proofs.restricted.told_after_part.Goals as goal

pub told_after-requires-clause-can : goal.told_after-requires-clause-can
told_after-requires-clause-can c = can_grown c.args.history.now c.args.work.now c.congruent.new.work c.congruent.ensures.grows c.args.assumed.now c.args.t c.requires.can

pub told_after-requires-clause-new : goal.told_after-requires-clause-new
told_after-requires-clause-new c = rewritten_now c.args.history.now c.args.assumed.now c.args.work.now c.congruent.new.work c.args.t c.in_ok-moved.moved c.congruent.ensures.grows c.requires.can c.in_ok-moved.ensures.ok

pub returns-clause-known : goal.returns-clause-known
returns-clause-known c = known_told c.args.history.now c.args.work.now c.congruent.new.work c.congruent.ensures.grows c.args.assumed.now c.args.t c.requires.can c.told_after.new.work c.told_after.result c.told_after.ensures.known

pub returns-clause-grows : goal.returns-clause-grows
returns-clause-grows c = WorkGrows-trans c.args.history.now c.args.work.now c.congruent.new.work c.told_after.new.work c.congruent.ensures.grows c.told_after.ensures.grows
