use Rattle.std.proofs.Common.{◌≡◌, length}
use Rattle.nq_logic.specs.Names.{are_distinct}
use Rattle.nq_event.specs.Hints.{variables_at}
use Rattle.nq_event.proofs.usable.are_distinct.Given as goal

abbrev pub decreases-loop-rest : goal.decreases-loop-rest
decreases-loop-rest l = length l.rest

abbrev pub invariant-loop-rest : goal.invariant-loop-rest
invariant-loop-rest l = are_distinct (variables_at l.initial.rest) ≡ are_distinct (variables_at l.rest)
