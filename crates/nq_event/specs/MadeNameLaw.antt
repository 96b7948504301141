-- The name that DISABLE or ENABLE makes up is in no use.
use Rattle.std.specs.Prelude.{◌≡◌, ◌+◌, ◌^◌, ◌<◌, Bool, false, length}
use Rattle.nq_logic.specs.Terms.{Name}
use Rattle.nq_logic.specs.Histories.{History}
use Rattle.nq_logic.specs.Ground.{all_events}
use Rattle.nq_logic.specs.Names.{events_names, is_in_use}
use Rattle.nq_events.specs.MadeNames.{made_name}

-- the events have so few names that each numeral up to their count is written in its own way
abbrev pub HasFewNames : History → Type 0
HasFewNames h = length (events_names (all_events h)) + 1 < 2 ^ 64

-- the name that is made up is not in use
abbrev pub MadeNamesAreUnused : Type 0
MadeNamesAreUnused = (h : History) (disabled : Bool) (old : Name) → HasFewNames h → is_in_use (made_name h disabled old) h ≡ false
