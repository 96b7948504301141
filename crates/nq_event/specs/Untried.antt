-- From where on the numerals behind a name are tried.
use Rattle.std.specs.Prelude.{◌≡◌, ℕ, zero, suc, ◌+◌, ◌-◌, ◌≤◌, ◌++◌}
use Rattle.std.specs.Fmt.{decimal}
use Rattle.nq_logic.specs.Terms.{Name}
use Rattle.nq_logic.specs.Histories.{History}
use Rattle.nq_events.specs.MadeNames.{numbered_from}

-- the name, and behind it the numeral of the tens where there are any
abbrev pub front_of : Name → ℕ → Name
front_of name zero = name
front_of name (suc tens) = name ++ decimal (suc tens)

-- the name that is sought from 1 on is the one that is sought from the number on
pub record IsUntried (h : History) (name : Name) (count number : ℕ) : Type 0 where
  pub some : 1 ≤ number
  pub most : number ≤ count + 1
  pub same : numbered_from h name 1 count ≡ numbered_from h name number (count + 1 - number)
