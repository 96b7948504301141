-- The default of a part, which an accessor takes where the part does not meet its restriction.
use Rattle.std.specs.Prelude.{◌≡◌, ◌⊎◌, Bool, true, false, ◌||◌, codes, List, [], ◌∷◌}
use Rattle.nq_logic.specs.Terms.{Name, Term, Function, IsAmong, Each}
use Rattle.nq_logic.specs.Histories.{History, Restriction, OneOf, NoneOf, Part, Shell}
use Rattle.nq_logic.specs.ShellPrinciple.{Meets, is_base, listed, recognizers, shells_of}

-- whether one of the shells has this base
abbrev pub has_base : Name → List Shell → Bool
has_base d [] = false
has_base d (s ∷ shells) = is_base d s.base || has_base d shells

-- whether each object meets the restriction
abbrev pub is_free : Restriction → Bool
is_free (OneOf rs) = false
is_free (NoneOf []) = true
is_free (NoneOf (r ∷ rs)) = false

-- T or F: its name, its term, and the recognizer that holds of it alone
abbrev pub truth_name : Bool → Name
truth_name true = codes "TRUE"
truth_name false = codes "FALSE"

abbrev pub truth_term : Bool → Term
truth_term value = Function (truth_name value)

abbrev pub truth_kind : Bool → Name
truth_kind true = codes "TRUEP"
truth_kind false = codes "FALSEP"

-- what a restriction may name
abbrev pub IsKind : History → Name → Type 0
IsKind h r = (r ≡ codes "TRUEP") ⊎ ((r ≡ codes "FALSEP") ⊎ IsAmong r (recognizers (shells_of h)))

-- the default of the part is T, or F, and it meets the restriction
pub record HasTruthDefault (h : History) (part : Part) (yes : Bool) : Type 0 where
  pub is : part.default ≡ truth_name yes
  pub kinds : Each (IsKind h) (listed part.restriction)
  pub meets : Meets part.restriction (truth_kind yes)
