-- Terms that can serve as rules, and such as cannot.
use Rattle.std.specs.Prelude.{◌≡◌, Bool, true, false, List, [], ◌∷◌, map}
use Rattle.nq_logic.specs.Terms.{Term}
use Rattle.nq_logic.specs.Words.{variable, call1, call2, true_term, false_term, equal_term, not_term, and_term, implies_term, iff_term, if_term, numeral, literal_atom}
use Rattle.nq_logic.specs.RuleShapes.{rule_parts, IsRewriteShape, is_elim_conclusion, IsElimShape, calls_another, IsPermutative}

abbrev p : Term
p = variable "P"

abbrev q : Term
q = variable "Q"

abbrev x : Term
x = variable "X"

abbrev y : Term
y = variable "Y"

-- no rewrite rule
abbrev IsNoRewrite : Term → Type 0
IsNoRewrite t = IsRewriteShape t → ⊥

-- a left side is a call and no value, in each part of the conclusion
pub record RewriteShapes : Type 0 where
  pub parts :
      rule_parts (implies_term (and_term p (and_term q (call1 "LISTP" x))) (implies_term (call1 "NUMBERP" y) (equal_term x y)))
      ≡ record { hypotheses = p ∷ q ∷ call1 "LISTP" x ∷ call1 "NUMBERP" y ∷ []; conclusion = equal_term x y }
  pub equation : IsRewriteShape (equal_term (call2 "PLUS" x y) x)
  pub truth : IsRewriteShape (implies_term p (call1 "LISTP" x))
  pub falsity : IsRewriteShape (not_term (call1 "LISTP" x))
  pub several : IsRewriteShape (implies_term p (and_term (and_term (call1 "LISTP" x) (not_term (call1 "NUMBERP" x))) (equal_term (call1 "CAR" x) y)))
  pub variable_alone : IsNoRewrite (implies_term p p)
  pub variable_side : IsNoRewrite (equal_term x (call1 "FIX" x))
  pub variable_denied : IsNoRewrite (not_term x)
  pub numeral_side : IsNoRewrite (equal_term (numeral 3) x)
  pub value_side : IsNoRewrite (equal_term (literal_atom "A") (call1 "CAR" x))
  pub value_alone : IsNoRewrite true_term
  pub one_part_wrong : IsNoRewrite (and_term (call1 "LISTP" x) x)

-- whether these are conclusions of elimination rules
abbrev eliminate : List Term → List Bool
eliminate ts = map is_elim_conclusion ts

-- X stands in the left side only in calls of distinct variables, and in one at least
pub record ElimShapes : Type 0 where
  pub pair : IsElimShape (implies_term (call1 "LISTP" x) (equal_term (call2 "CONS" (call1 "CAR" x) (call1 "CDR" x)) x))
  pub parts_alone : eliminate (equal_term (call2 "PLUS" (call2 "REMAINDER" x y) (call2 "TIMES" y (call2 "QUOTIENT" x y))) x ∷ equal_term (call1 "FIX" x) x ∷ []) ≡ (true ∷ true ∷ [])
  pub stands_apart : eliminate (equal_term (call2 "CONS" x (call1 "CDR" x)) x ∷ equal_term (call2 "CONS" (call1 "CAR" x) (call2 "PLUS" x x)) x ∷ []) ≡ (false ∷ false ∷ [])
  pub no_destructor : eliminate (equal_term x x ∷ equal_term (call1 "CAR" y) x ∷ equal_term (call1 "CAR" (call1 "CDR" x)) y ∷ equal_term (call2 "PLUS" x x) x ∷ []) ≡ (false ∷ false ∷ false ∷ false ∷ [])
  pub other_side : eliminate (equal_term x (call2 "CONS" (call1 "CAR" x) (call1 "CDR" x)) ∷ equal_term (call1 "FIX" x) (numeral 0) ∷ call2 "PLUS" (call1 "FIX" x) x ∷ []) ≡ (false ∷ false ∷ false ∷ [])

-- a call of another function than the propositional ones, of which a numeral is one too
pub record GeneralizeShapes : Type 0 where
  pub others : map calls_another (call1 "NUMBERP" (call1 "COUNT" x) ∷ equal_term x (numeral 0) ∷ implies_term (call1 "LISTP" x) p ∷ []) ≡ (true ∷ true ∷ true ∷ [])
  pub plain : map calls_another (x ∷ equal_term true_term false_term ∷ implies_term p (iff_term q (not_term (if_term p q (and_term p (call2 "OR" p q))))) ∷ []) ≡ (false ∷ false ∷ false ∷ [])

-- variables that are exchanged, one that stands for two, and one that is new
pub record PermutativeRules : Type 0 where
  pub exchanged : IsPermutative (call2 "PLUS" x y) (call2 "PLUS" y x)
  pub same : IsPermutative (call2 "PLUS" x y) (call2 "PLUS" x y)
  pub merged : IsPermutative (call2 "PLUS" x y) (call2 "PLUS" y y) → ⊥
  pub split : IsPermutative (call2 "PLUS" y y) (call2 "PLUS" x y) → ⊥
  pub foreign : IsPermutative (call1 "FIX" x) (call1 "FIX" y) → ⊥
  pub larger : IsPermutative (call1 "FIX" x) (call1 "FIX" (call1 "FIX" x)) → ⊥
