use Rattle.nq_kernel.proofs.GrowingLemmas.{WorkGrows-refl, WorkGrows-trans}
use Rattle.nq_reduce.proofs.RewritingLemmas.{can_grown, can_term, rewritten_after, rewritten_now, told_before}
use Rattle.nq_literal.proofs.literal.rewrite_outside.Goals as goal

pub rewritten-requires : goal.rewritten-requires
rewritten-requires c = record { can = can_term c.args.history.now c.args.work.now c.args.assumed.now c.args.t c.args.denial.term c.requires.can c.requires.denial.new }

pub follow-requires-clause-can : goal.follow-requires-clause-can
follow-requires-clause-can c = can_grown c.args.history.now c.args.work.now c.rewritten.new.work c.rewritten.ensures.grows c.args.assumed.now c.args.t c.requires.can

pub follow-requires-clause-first : goal.follow-requires-clause-first
follow-requires-clause-first c = rewritten_after c.args.history.now c.args.work.now c.rewritten.new.work c.rewritten.ensures.grows c.args.assumed.now c.args.t c.args.denial c.requires.can c.requires.denial

pub follow-requires-clause-second : goal.follow-requires-clause-second
follow-requires-clause-second c =
    rewritten_now c.args.history.now c.args.assumed.now c.args.work.now c.rewritten.new.work c.args.denial.term c.in_ok-rest.rest c.rewritten.ensures.grows
    (can_term c.args.history.now c.args.work.now c.args.assumed.now c.args.t c.args.denial.term c.requires.can c.requires.denial.new) c.in_ok-rest.ensures.ok

pub returns-else-is_value-clause-grows : goal.returns-else-is_value-clause-grows
returns-else-is_value-clause-grows c = WorkGrows-refl c.args.history.now c.args.work.now c.requires.can.stands

pub returns-in_ok-rest-clause-ok : goal.returns-in_ok-rest-clause-ok
returns-in_ok-rest-clause-ok c = told_before c.args.history.now c.args.assumed.now c.args.work.now c.rewritten.new.work c.follow.new.work c.args.t c.follow.result c.rewritten.ensures.grows c.requires.can c.follow.ensures.ok

pub returns-in_ok-rest-clause-grows : goal.returns-in_ok-rest-clause-grows
returns-in_ok-rest-clause-grows c = WorkGrows-trans c.args.history.now c.args.work.now c.rewritten.new.work c.follow.new.work c.rewritten.ensures.grows c.follow.ensures.grows
