-- Which names are enabled, and which rules.
use Rattle.std.specs.Prelude.{nat_eq, Bool, true, false, ◌&&◌, ◌||◌, not, if◌then◌else◌, List, [], ◌∷◌, Option, None, Some}
use Rattle.nq_bank.specs.declared.node.Sym.{Sym}
use Rattle.nq_history.specs.declared.entry.Entry.{Entry}
use Rattle.nq_history.specs.declared.hints.Hints.{Hints}
use Rattle.nq_history.specs.Lookups.{enabled_in}
use Rattle.nq_rule_table.specs.declared.rule.RuleRef.{RuleRef}
use Rattle.nq_rule_table.specs.declared.rule.Toggled.{Toggled}

-- whether the name is one of these
abbrev pub is_among : Sym → List Sym → Bool
is_among name [] = false
is_among name (s ∷ names) = nat_eq name.0 s.0 || is_among name names

-- whether a name is enabled after an event that disables or enables one, where it was so before it or not
abbrev pub enabled_past : Sym → Bool → Toggled → Bool
enabled_past name before t = if nat_eq name.0 t.name.0 then not t.disabled else before

-- whether a name is enabled, where it was so before or not: the last event that disables or enables it tells
abbrev pub enabled_by : Sym → Bool → List Toggled → Bool
enabled_by name before [] = before
enabled_by name before (t ∷ toggles) = enabled_by name (enabled_past name before t) toggles

-- a name is enabled for an event with hints where it is not in DISABLE, and is in ENABLE or enabled before
abbrev pub is_enabled_with : Hints → Sym → Bool → Bool
is_enabled_with hints name before = not (is_among name hints.disable.items) && (is_among name hints.enable.items || before)

-- the same after these entries
abbrev pub is_enabled_after : Hints → Sym → List Entry → Bool
is_enabled_after hints name entries = is_enabled_with hints name (enabled_in name true entries)

-- the rule, where its event is enabled for the hints after these entries
abbrev pub if_enabled : Hints → List Entry → Option RuleRef → Option RuleRef
if_enabled hints entries None = None
if_enabled hints entries (Some r) = if is_enabled_after hints r.event entries then Some r else None
