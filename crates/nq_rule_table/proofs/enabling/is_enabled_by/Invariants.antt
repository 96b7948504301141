use Rattle.std.proofs.Common.{◌≡◌, true, drop}
use Rattle.nq_rule_table.specs.Enabled.{enabled_by}
use Rattle.nq_rule_table.proofs.enabling.is_enabled_by.Given as goal

abbrev pub invariant-loop-t : goal.invariant-loop-t
invariant-loop-t l = enabled_by l.name l.enabled (drop l.t-index l.toggles) ≡ enabled_by l.name true l.toggles
