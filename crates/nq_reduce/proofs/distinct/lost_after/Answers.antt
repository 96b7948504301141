use Rattle.nq_kernel.proofs.GrowingLemmas.{WorkGrows-trans}
use Rattle.nq_reduce.proofs.RewritingLemmas.{can_grown, rewritten_after, can_term, rewritten_now, told_before}
use Rattle.nq_reduce.proofs.distinct.lost_after.Goals as goal

pub last_step-requires : goal.last_step-requires
last_step-requires c = record { can = can_term c.args.history.now c.args.work.now c.args.assumed.now c.args.t c.args.moved.term c.requires.can c.requires.moved.new }

pub follow-requires-clause-can : goal.follow-requires-clause-can
follow-requires-clause-can c = can_grown c.args.history.now c.args.work.now c.last_step.new.work c.last_step.ensures.grows c.args.assumed.now c.args.t c.requires.can

pub follow-requires-clause-first : goal.follow-requires-clause-first
follow-requires-clause-first c = rewritten_after c.args.history.now c.args.work.now c.last_step.new.work c.last_step.ensures.grows c.args.assumed.now c.args.t c.args.moved c.requires.can c.requires.moved

pub follow-requires-clause-second : goal.follow-requires-clause-second
follow-requires-clause-second c = rewritten_now c.args.history.now c.args.assumed.now c.args.work.now c.last_step.new.work c.args.moved.term c.in_ok-rest.rest c.last_step.ensures.grows (can_term c.args.history.now c.args.work.now c.args.assumed.now c.args.t c.args.moved.term c.requires.can c.requires.moved.new) c.in_ok-rest.ensures.ok

pub returns-clause-ok : goal.returns-clause-ok
returns-clause-ok c = told_before c.args.history.now c.args.assumed.now c.args.work.now c.last_step.new.work c.follow.new.work c.args.t c.follow.result c.last_step.ensures.grows c.requires.can c.follow.ensures.ok

pub returns-clause-grows : goal.returns-clause-grows
returns-clause-grows c = (WorkGrows-trans c.args.history.now c.args.work.now c.last_step.new.work c.follow.new.work c.last_step.ensures.grows c.follow.ensures.grows)
