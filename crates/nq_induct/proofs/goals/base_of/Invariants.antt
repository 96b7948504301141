-- The tests so far.
use Rattle.std.proofs.Common.{◌≡◌, map, take}
use Rattle.nq_induct.proofs.goals.base_of.Given as goal

abbrev pub invariant-loop-case : goal.invariant-loop-case
invariant-loop-case l = l.literals.items ≡ map (λ c. c.test) (take l.case-index l.cases)
