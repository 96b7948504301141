-- Calls that GEN generalizes.
use Rattle.std.specs.Prelude.{◌≡◌, ℕ, Bool, true, false, ◌&&◌, ◌||◌, not, nat_le, List, [], ◌∷◌}
use Rattle.nq_logic.specs.Terms.{Term}
use Rattle.nq_logic.specs.Histories.{History, Shell}
use Rattle.nq_logic.specs.Names.{has_name}
use Rattle.nq_logic.specs.ShellPrinciple.{recognizers}
use Rattle.nq_logic.specs.RuleShapes.{is_call}
use Rattle.nq_logic.specs.Values.{is_value}
use Rattle.nq_proof.specs.Clauses.{has_term}
use Rattle.nq_goals.specs.Functions.{accessors, constructors, is_call_among}
use Rattle.nq_goals.specs.Generalizing.{kept_functions, literals_with, is_on_both_sides, is_on_both_sides_of_one}
use Rattle.nq_goals.specs.Occurrences.{atom_of}
use Rattle.nq_goals.specs.Replacing.{stands_in_one}

-- an accessor, a constructor or a recognizer
abbrev pub is_of_shell : List ℕ → List Shell → Bool
is_of_shell f shells = has_name f (accessors shells) || has_name f (constructors shells) || has_name f (recognizers shells)

-- a call and no value, of a function whose calls are generalized
abbrev pub is_general : History → Term → Bool
is_general h t = is_call t && not (is_value t) && not (is_call_among (kept_functions h) t)

-- one of these is to be generalized, and is among the others
abbrev pub has_common : History → List Term → List Term → Bool
has_common h [] others = false
has_common h (t ∷ ts) others = (is_general h t && has_term t others) || has_common h ts others

-- no call that is to be generalized stands in one of these and in one of the others
pub record SharesNone (h : History) (these others : List Term) : Type 0 where
  pub none : (t : Term) → is_general h t ≡ true → stands_in_one t these ≡ true → stands_in_one t others ≡ true → ⊥

-- no call that is to be generalized stands in two of these literals
pub record HasNoneRepeated (h : History) (goal : List Term) : Type 0 where
  pub none : (t : Term) → is_general h t ≡ true → nat_le 2 (literals_with t goal) ≡ false

-- no call that is to be generalized stands on both sides of the literal
pub record IsUnbalanced (h : History) (literal : Term) : Type 0 where
  pub none : (t : Term) → is_general h t ≡ true → is_on_both_sides t (atom_of literal) ≡ false

-- no call that is to be generalized stands on both sides of one of these literals
pub record HasNoneBalanced (h : History) (goal : List Term) : Type 0 where
  pub none : (t : Term) → is_general h t ≡ true → is_on_both_sides_of_one t goal ≡ false
