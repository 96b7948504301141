use Rattle.std.proofs.Common.{◌∙◌}
use Rattle.nq_follow.proofs.trail.go_down.Goals as goal

pub returns-clause-ok : goal.returns-clause-ok
returns-clause-ok c =
    let r = c.in_ok-push_ancestor.ensures.ok in
    record { last = r.last; whole = r.whole; kind_is = r.kind_is; goal_is = r.goal_is ∙ c.in_ok-goal.ensures.ok }
