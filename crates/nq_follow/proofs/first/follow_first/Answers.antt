use Rattle.nq_follow.proofs.FollowLemmas.{first_trace}
use Rattle.nq_waterfall.proofs.SolvingLemmas.{path_in_none}
use Rattle.nq_follow.proofs.first.follow_first.Goals as goal

pub follow-requires-clause-path_in : goal.follow-requires-clause-path_in
follow-requires-clause-path_in g c = path_in_none c.args.history.now c.args.work.now c.nothing-trail.result.path.items c.nothing-trail.ensures.path

pub returns-clause-trace : goal.returns-clause-trace
returns-clause-trace g c = first_trace c.args.history.now c.args.hints.now c.follow.new.work c.nothing-trail.result c.follow.new.trail c.args.goal.now c.nothing-trail.ensures c.in_ok-follow.ensures.trail

pub returns-clause-stand : goal.returns-clause-stand
returns-clause-stand g c = c.in_ok-follow.ensures.trail.stands.trace
