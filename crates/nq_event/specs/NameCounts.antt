-- How many names a history has.
use Rattle.std.specs.Prelude.{ℕ, length}
use Rattle.nq_logic.specs.Histories.{History}
use Rattle.nq_logic.specs.Ground.{all_events}
use Rattle.nq_logic.specs.Names.{events_names}

-- how many names its events bring into use, each as often as it is brought
unfoldable pub name_count : History → ℕ
name_count h = length (events_names (all_events h))
