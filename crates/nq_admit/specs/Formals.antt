-- A set by which the formals of a function are known.
use Rattle.std.specs.Prelude.{◌≡◌, ℕ, nat_eq, List, Option}
use Rattle.std.specs.Option.{option_map}
use Rattle.std.specs.HashSet.{HashSet, contains}
use Rattle.std.specs.declared.hash.FoldHasher.{FoldHasher}
use Rattle.std.specs.declared.hash.BuildHasherDefault.{BuildHasherDefault}
use Rattle.nq_logic.specs.Terms.{Name}
use Rattle.nq_logic.specs.Names.{has_name}
use Rattle.nq_logic.specs.ShellPrinciple.{first_outside}
use Rattle.nq_bank.specs.declared.node.Sym.{Sym}
use Rattle.nq_bank.specs.Content.{Content, IsNamed, text_at}
use Rattle.nq_bank.specs.Shells.{texts_at}

abbrev pub Ids : Type 0
Ids = HashSet ℕ (BuildHasherDefault FoldHasher)

-- a name of the bank is one of these where the set has its id
abbrev pub IsSetOf : Content → List Sym → Ids → Type 0
IsSetOf bank names ids = (s : Sym) → IsNamed bank s → contains nat_eq ids s.0 ≡ has_name (text_at bank s) (texts_at bank names)

-- the first of these texts that is none of the names that the set is of
abbrev pub IsFirstOutside : Content → Ids → List Name → Option Sym → Type 0
IsFirstOutside bank ids texts first =
    (names : List Sym) → IsSetOf bank names ids → option_map (text_at bank) first ≡ first_outside (texts_at bank names) texts
