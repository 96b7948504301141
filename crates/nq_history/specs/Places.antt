-- The places of names in a list, and maps that find them.
use Rattle.std.specs.Prelude.{◌≡◌, ℕ, suc, nat_eq, if◌then◌else◌, List, [], ◌∷◌, Option, Some, None}
use Rattle.std.specs.Option.{option_map}
use Rattle.std.specs.declared.hash.FoldHasher.{FoldHasher}
use Rattle.std.specs.declared.hash.BuildHasherDefault.{BuildHasherDefault}
use Rattle.std.specs.HashMap.{get, HashMap}
use Rattle.nq_bank.specs.declared.node.Sym.{Sym}

-- the place of the first of these names that is this one
abbrev pub place_in : Sym → List Sym → Option ℕ
place_in name [] = None
place_in name (s ∷ names) = if nat_eq name.0 s.0 then Some 0 else option_map suc (place_in name names)

-- places by the numbers of names
abbrev pub Places : Type 0
Places = HashMap ℕ ℕ (BuildHasherDefault FoldHasher)

-- the map has the first place of each name, and of no other
abbrev pub FindsPlaces : List Sym → Places → Type 0
FindsPlaces names places = (name : Sym) → get nat_eq places name.0 ≡ place_in name names
