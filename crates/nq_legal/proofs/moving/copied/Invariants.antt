-- The goals so far are copied.
use Rattle.std.proofs.Common.{take}
use Rattle.nq_legal.specs.Legal.{AreCopies}
use Rattle.nq_legal.proofs.moving.copied.Given as goal

abbrev pub invariant-loop-goal : goal.invariant-loop-goal
invariant-loop-goal l = AreCopies l.copies.items (take l.goal-index l.goals)
