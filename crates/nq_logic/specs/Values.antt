-- Values: T, F, numerals, CONS of two values, PACK of a value and MINUS of a numeral.
use Rattle.std.specs.Prelude.{ℕ, Bool, false, ◌&&◌, ◌||◌, bytes_eq, codes, List, [], ◌∷◌}
use Rattle.nq_logic.specs.Terms.{Term, Variable, Function, Applied}
use Rattle.nq_logic.specs.Numerals.{is_numeral}

-- (f) is T or F
abbrev pub is_truth_value : List ℕ → Bool
is_truth_value f = bytes_eq f (codes "TRUE") || bytes_eq f (codes "FALSE")

-- is (f t) a value, where t is one, or a numeral?
abbrev pub is_value_of_one : List ℕ → Bool → Bool → Bool
is_value_of_one f value number = bytes_eq f (codes "PACK") && value || bytes_eq f (codes "MINUS") && number

-- is (f t u) a value, where t and u are values?
abbrev pub is_value_of_two : List ℕ → Bool → Bool → Bool
is_value_of_two f first second = bytes_eq f (codes "CONS") && first && second

-- is a term that is no numeral a value?
unfoldable pub is_tree_value : Term → Bool
is_tree_value (Variable x) = false
is_tree_value (Function f) = is_truth_value f
is_tree_value (Applied (Variable x) u) = false
is_tree_value (Applied (Function f) u) = is_value_of_one f (is_numeral u || is_tree_value u) (is_numeral u)
is_tree_value (Applied (Applied (Variable x) t) u) = false
is_tree_value (Applied (Applied (Function f) t) u) = is_value_of_two f (is_numeral t || is_tree_value t) (is_numeral u || is_tree_value u)
is_tree_value (Applied (Applied (Applied s r) t) u) = false

abbrev pub is_value : Term → Bool
is_value t = is_numeral t || is_tree_value t

-- is the call of f a value, where it is no numeral?
abbrev pub is_value_call : List ℕ → List Term → Bool
is_value_call f [] = is_truth_value f
is_value_call f (t ∷ []) = is_value_of_one f (is_value t) (is_numeral t)
is_value_call f (t ∷ (u ∷ [])) = is_value_of_two f (is_value t) (is_value u)
is_value_call f (t ∷ (u ∷ (s ∷ ts))) = false
