-- Functions of a table.
use Rattle.std.specs.Prelude.{Bool, true, ◌&&◌, nat_lt, List, [], ◌∷◌, map}
use Rattle.nq_logic.specs.Terms.{Symbol}
use Rattle.nq_bank.specs.GroundNames.{ground_count}
use Rattle.nq_bank.specs.Soundness.{ground_text}
use Rattle.nq_check.specs.declared.arities.Function.{Function}

-- the symbols of a table
abbrev pub symbols_in : List Function → List Symbol
symbols_in functions = map (λ f. (ground_text f.0, f.1)) functions

-- whether each function has a ground name
abbrev pub are_ground : List Function → Bool
are_ground [] = true
are_ground (f ∷ functions) = nat_lt f.0.0 ground_count && are_ground functions
