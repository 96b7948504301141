use Rattle.std.proofs.Common.{refl, rules}
use Rattle.nq_follow.proofs.trail.push_step.Goals as goal

pub returns-clause-ok : goal.returns-clause-ok
returns-clause-ok c = record { last = c.args.step; whole = search rules; parent_is = refl; kind_is = refl; goal_is = refl }
