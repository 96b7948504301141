use Rattle.std.proofs.Common.{◌∙◌}
use Rattle.nq_follow.proofs.trail.add_step.Goals as goal

pub returns-clause-ok : goal.returns-clause-ok
returns-clause-ok c =
    let r = c.in_ok-push_step.ensures.ok in
    record { last = r.last; whole = r.whole; parent_is = r.parent_is; kind_is = r.kind_is; goal_is = r.goal_is ∙ c.in_ok-goal.ensures.ok }
