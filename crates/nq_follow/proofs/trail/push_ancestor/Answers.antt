use Rattle.std.proofs.Common.{refl, rules}
use Rattle.nq_follow.proofs.trail.push_ancestor.Goals as goal

pub returns-clause-ok : goal.returns-clause-ok
returns-clause-ok c = record { last = c.args.a; whole = search rules; kind_is = refl; goal_is = refl }
