-- Each value is of a kind.
use Rattle.std.proofs.Common.{◌≡◌, ◌+◌, ℕ, zero, suc, Bool, true, false, ◌||◌, ◌&&◌, Option, Some, None, [], ◌∷◌, refl, sym, ap, subst, arith}
use Rattle.std.specs.Prelude.{codes, bytes_eq, is_some}
use Rattle.nq_logic.specs.Terms.{Name, Term, Variable, Function, Applied}
use Rattle.nq_logic.specs.Words.{numeral}
use Rattle.nq_logic.specs.Numerals.{is_numeral, number_of}
use Rattle.nq_logic.specs.Values.{is_tree_value, is_value}
use Rattle.nq_logic.specs.Histories.{History}
use Rattle.nq_logic.specs.Ground.{pairs, atoms, negatives}
use Rattle.nq_logic.proofs.Numbers.{numbers_are_of_numerals_law}
use Rattle.nq_proof.proofs.Tests.{names_same}
use Rattle.nq_types.specs.Kinds.{IsOfKind, ValuesHaveKinds, of_truth, of_falsity, of_base, of_made}
use Rattle.nq_types.proofs.KindLemmas.{zero_kind, more_kind}

abbrev Kinded : History → Term → Type 0
Kinded h t = (k : ℕ) × IsOfKind h t k

number_kinded : (h : History) (t : Term) (n : ℕ) → t ≡ numeral n → Kinded h t
number_kinded h t n is = subst (Kinded h) (sym is) (by_number n)
  where
    by_number : (n : ℕ) → Kinded h (numeral n)
    by_number zero = (0 + 2, of_base 0 (zero_kind h zero refl))
    by_number (suc n) = (0 + 2, of_made 0 (more_kind h (suc n) (λ e. omega (arith, e))))

numeral_kinded : (h : History) (t : Term) (o : Option ℕ) → number_of t ≡ o → is_some o ≡ true → Kinded h t
numeral_kinded h t None e some = absurd cc
numeral_kinded h t (Some n) e some = number_kinded h t n (numbers_are_of_numerals_law t n e).0

truth_kinded : (h : History) (f : Name) (a b : Bool) → bytes_eq f (codes "TRUE") ≡ a → bytes_eq f (codes "FALSE") ≡ b → (a || b) ≡ true → Kinded h (Function f)
truth_kinded h f true b e g some = (0, of_truth (ap Function (names_same f (codes "TRUE") e)))
truth_kinded h f false true e g some = (1, of_falsity (ap Function (names_same f (codes "FALSE") g)))
truth_kinded h f false false e g some = absurd cc

one_kinded : (h : History) (f : Name) (u : Term) (a b c d : Bool) → bytes_eq f (codes "PACK") ≡ a → bytes_eq f (codes "MINUS") ≡ b → (a && c || b && d) ≡ true → Kinded h (Applied (Function f) u)
one_kinded h f u true b c d e g some = (2 + 2, of_made 2 (record { shell = atoms; at = refl; arguments = u ∷ []; count = refl; is = ap (λ x. Applied (Function x) u) (names_same f (codes "PACK") e) }))
one_kinded h f u false true c d e g some = (3 + 2, of_made 3 (record { shell = negatives; at = refl; arguments = u ∷ []; count = refl; is = ap (λ x. Applied (Function x) u) (names_same f (codes "MINUS") g) }))
one_kinded h f u false false c d e g some = absurd cc

two_kinded : (h : History) (f : Name) (t u : Term) (a b c : Bool) → bytes_eq f (codes "CONS") ≡ a → (a && b && c) ≡ true → Kinded h (Applied (Applied (Function f) t) u)
two_kinded h f t u true b c e some = (1 + 2, of_made 1 (record { shell = pairs; at = refl; arguments = t ∷ u ∷ []; count = refl; is = ap (λ x. Applied (Applied (Function x) t) u) (names_same f (codes "CONS") e) }))
two_kinded h f t u false b c e some = absurd cc

tree_kinded : (h : History) (t : Term) → is_tree_value t ≡ true → Kinded h t
unfolding is_tree_value
tree_kinded h (Variable x) e = absurd cc
tree_kinded h (Function f) e = truth_kinded h f (bytes_eq f (codes "TRUE")) (bytes_eq f (codes "FALSE")) refl refl e
tree_kinded h (Applied (Variable x) u) e = absurd cc
tree_kinded h (Applied (Function f) u) e = one_kinded h f u (bytes_eq f (codes "PACK")) (bytes_eq f (codes "MINUS")) (is_value u) (is_numeral u) refl refl e
tree_kinded h (Applied (Applied (Variable x) t) u) e = absurd cc
tree_kinded h (Applied (Applied (Function f) t) u) e = two_kinded h f t u (bytes_eq f (codes "CONS")) (is_value t) (is_value u) refl e
tree_kinded h (Applied (Applied (Applied s r) t) u) e = absurd cc

pub value_kinded : ValuesHaveKinds
value_kinded h t e = by_numeral (is_numeral t) refl e
  where
    by_numeral : (b : Bool) → is_numeral t ≡ b → (b || is_tree_value t) ≡ true → (k : ℕ) × IsOfKind h t k
    by_numeral true same some = numeral_kinded h t (number_of t) refl same
    by_numeral false same some = tree_kinded h t some
