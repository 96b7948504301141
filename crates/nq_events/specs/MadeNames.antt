-- The names that DISABLE and ENABLE make up.
use Rattle.std.specs.Prelude.{ℕ, zero, suc, Bool, true, false, ◌++◌, length, codes}
use Rattle.std.specs.Fmt.{decimal}
use Rattle.nq_logic.specs.Terms.{Name}
use Rattle.nq_logic.specs.Histories.{History}
use Rattle.nq_logic.specs.Ground.{all_events}
use Rattle.nq_logic.specs.Names.{events_names, is_in_use}

-- the name with the numeral k behind it, or with a later one where that is in use; so many more are tried
abbrev pub numbered_from : History → Name → ℕ → ℕ → Name
numbered_from h name k zero = name ++ decimal k
numbered_from h name k (suc more) = elim (is_in_use (name ++ decimal k) h) [ true ↦ numbered_from h name (suc k) more | false ↦ name ++ decimal k ]

-- the name alone, or with the first numeral from 1 that makes a name not in use
abbrev pub unused_from : History → Name → Name
unused_from h name = elim (is_in_use name h) [ true ↦ numbered_from h name 1 (length (events_names (all_events h))) | false ↦ name ]

-- the old name with -OFF or -ON behind it
abbrev pub switched_name : Bool → Name → Name
switched_name true old = old ++ codes "-OFF"
switched_name false old = old ++ codes "-ON"

-- the name of the toggle that disables or enables the old name
abbrev pub made_name : History → Bool → Name → Name
made_name h disabled old = unused_from h (switched_name disabled old)
