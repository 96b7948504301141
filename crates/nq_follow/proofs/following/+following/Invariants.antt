-- Each entry uses a step. Between entries the functions are ranked.
use Rattle.std.proofs.Common.{◌+◌, ◌-◌, ◌*◌}
use Rattle.nq_kernel.specs.Growing.{WorkGrows}
use Rattle.nq_waterfall.specs.Trails.{TrailStands, IsWithAncestor}
use Rattle.nq_waterfall.specs.Solved.{GoesOnAt}
use Rattle.nq_follow.proofs.following.+following.Given as goal

abbrev pub decreases-follow : goal.decreases-follow
decreases-follow g l = 3 * (l.work.now.counter.limit - l.work.now.counter.used)

abbrev pub decreases-follow_nexts : goal.decreases-follow_nexts
decreases-follow_nexts g l = 3 * (l.work.now.counter.limit - l.work.now.counter.used) + 2

abbrev pub decreases-follow_next : goal.decreases-follow_next
decreases-follow_next g l = 3 * (l.work.now.counter.limit - l.work.now.counter.used) + 1

-- The goal is on the way down, and the trace went on.
abbrev pub invariant-follow_nexts-loop-next : goal.invariant-follow_nexts-loop-next
invariant-follow_nexts-loop-next g l =
    record {
      grows : WorkGrows l.history l.fn.work l.work;
      path : IsWithAncestor l.fn.trail.path.items l.trail.path.items l.goal l.lead.kind;
      stands : TrailStands l.work.bank l.trail;
      trace : GoesOnAt l.work.bank l.history l.hints l.fn.trail.path.items l.goal l.number l.fn.trail.trace.items l.trail.trace.items;
    }
