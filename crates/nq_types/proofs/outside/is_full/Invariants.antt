-- The bits so far are in the set.
use Rattle.std.proofs.Common.{◌≡◌, ◌≤◌, ◌<◌, ℕ, true}
use Rattle.nq_types.specs.TypeSets.{is_in}
use Rattle.nq_types.proofs.outside.is_full.Given as goal

abbrev pub invariant-loop-place : goal.invariant-loop-place
invariant-loop-place l = (k : ℕ) → l.from ≤ k → k < l.place → is_in l.set.0 k ≡ true
