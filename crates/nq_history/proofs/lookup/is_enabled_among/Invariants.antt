-- The entries left tell from here on.
use Rattle.std.proofs.Common.{◌≡◌, drop, true}
use Rattle.nq_history.specs.Lookups.{enabled_in}
use Rattle.nq_history.proofs.lookup.is_enabled_among.Given as goal

abbrev pub invariant-loop-e : goal.invariant-loop-e
invariant-loop-e l = enabled_in l.name true l.entries ≡ enabled_in l.name l.enabled (drop l.e-index l.entries)
