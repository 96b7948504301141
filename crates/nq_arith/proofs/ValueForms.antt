-- Values as a type of their own, and the terms that they are.
use Rattle.std.proofs.Common.{◌≡◌, ℕ, nat_lt, true, ◌&&◌, ◌||◌, ◌⊎◌, inl, inr, refl, ap, ap₂}
use Rattle.std.specs.Prelude.{Option, Some, None, is_some, codes, bytes_eq}
use Rattle.nq_logic.specs.Words.{call1, call2, true_term, false_term, numeral}
use Rattle.nq_logic.specs.Terms.{Term, Variable, Function, Applied, IsTerm}
use Rattle.nq_logic.specs.Ground.{symbols_of}
use Rattle.nq_logic.specs.Histories.{History}
use Rattle.nq_logic.proofs.Symbols.{true_symbol, false_symbol, cons_symbol, pack_symbol, minus_symbol}
use Rattle.nq_logic.specs.Numerals.{numeral_limit, number_of, is_numeral}
use Rattle.nq_logic.specs.Values.{is_tree_value, is_value}
use Rattle.nq_proof.specs.Values.{number_or_zero, or_zero}
use Rattle.nq_proof.proofs.Tests.{names_same, and_left, and_right, or_cases}
use Rattle.nq_proof.proofs.Numbers.{numeral_has_number, IsNumeralOf, number_is_numeral}
use Rattle.nq_arith.proofs.Numerals.{numeral_over}

-- the number of a numeral is below 2^128
pub data Value : Type 0 where
  Truth : Value
  Falsity : Value
  Number : (n : ℕ) → nat_lt n numeral_limit ≡ true → Value
  Pair : (first rest : Value) → Value
  Atom : (part : Value) → Value
  Negative : (n : ℕ) → nat_lt n numeral_limit ≡ true → Value

abbrev pub term_of : Value → Term
term_of Truth = true_term
term_of Falsity = false_term
term_of (Number n e) = numeral n
term_of (Pair v w) = call2 "CONS" (term_of v) (term_of w)
term_of (Atom v) = call1 "PACK" (term_of v)
term_of (Negative n e) = call1 "MINUS" (numeral n)

-- the number that it counts as
abbrev pub counted : Value → ℕ
counted Truth = 0
counted Falsity = 0
counted (Number n e) = n
counted (Pair v w) = 0
counted (Atom v) = 0
counted (Negative n e) = 0

pub term_over : (h : History) (v : Value) → IsTerm (symbols_of h) (term_of v)
term_over h Truth = true_symbol h
term_over h Falsity = false_symbol h
term_over h (Number n e) = numeral_over h n
term_over h (Pair v w) = ((cons_symbol h, term_over h v), term_over h w)
term_over h (Atom v) = (pack_symbol h, term_over h v)
term_over h (Negative n e) = (minus_symbol h, numeral_over h n)

pub number_of_numeral : (n : ℕ) → nat_lt n numeral_limit ≡ true → number_or_zero (numeral n) ≡ n
number_of_numeral n e = ap or_zero (numeral_has_number n e)

pub counted_same : (v : Value) → number_or_zero (term_of v) ≡ counted v
unfolding number_of
counted_same Truth = refl
counted_same Falsity = refl
counted_same (Number n e) = number_of_numeral n e
counted_same (Pair v w) = refl
counted_same (Atom v) = refl
counted_same (Negative n e) = refl

abbrev pub Valued : Term → Type 0
Valued t = (v : Value) × (t ≡ term_of v)

-- a numeral as such
pub numbered : (t : Term) → is_numeral t ≡ true → (n : ℕ) × IsNumeralOf n t
numbered t e = by_number (number_of t) refl e
  where
    by_number : (o : Option ℕ) → number_of t ≡ o → is_some o ≡ true → (n : ℕ) × IsNumeralOf n t
    by_number None f g = absurd cc
    by_number (Some n) f g = (n, number_is_numeral t n f)

number_valued : (t : Term) → is_numeral t ≡ true → Valued t
number_valued t e = let n = numbered t e in (Number n.0 n.1.0, n.1.1)

-- each term that is a value is the term of one
either_valued : (t : Term) → (is_tree_value t ≡ true → Valued t) → is_numeral t || is_tree_value t ≡ true → Valued t
either_valued t again e = elim (or_cases (is_numeral t) (is_tree_value t) e) as (λ o. Valued t) [ inl n ↦ number_valued t n | inr d ↦ again d ]

tree_valued : (t : Term) → is_tree_value t ≡ true → Valued t
unfolding is_tree_value
tree_valued (Variable x) e = absurd cc
tree_valued (Function f) e = by_name (or_cases (bytes_eq f (codes "TRUE")) (bytes_eq f (codes "FALSE")) e)
  where
    by_name : (bytes_eq f (codes "TRUE") ≡ true) ⊎ (bytes_eq f (codes "FALSE") ≡ true) → Valued (Function f)
    by_name (inl n) = (Truth, ap Function (names_same f (codes "TRUE") n))
    by_name (inr n) = (Falsity, ap Function (names_same f (codes "FALSE") n))
tree_valued (Applied (Variable x) u) e = absurd cc
tree_valued (Applied (Function f) u) e =
    by_name (λ d. tree_valued u d) (or_cases (bytes_eq f (codes "PACK") && (is_numeral u || is_tree_value u)) (bytes_eq f (codes "MINUS") && is_numeral u) e)
  where
    by_name : (is_tree_value u ≡ true → Valued u) → (bytes_eq f (codes "PACK") && (is_numeral u || is_tree_value u) ≡ true) ⊎ (bytes_eq f (codes "MINUS") && is_numeral u ≡ true) → Valued (Applied (Function f) u)
    by_name again (inl p) =
        let part = either_valued u again (and_right (bytes_eq f (codes "PACK")) (is_numeral u || is_tree_value u) p) in
        (Atom part.0, ap₂ Applied (ap Function (names_same f (codes "PACK") (and_left (bytes_eq f (codes "PACK")) (is_numeral u || is_tree_value u) p))) part.1)
    by_name again (inr p) =
        let n = numbered u (and_right (bytes_eq f (codes "MINUS")) (is_numeral u) p) in
        (Negative n.0 n.1.0, ap₂ Applied (ap Function (names_same f (codes "MINUS") (and_left (bytes_eq f (codes "MINUS")) (is_numeral u) p))) n.1.1)
tree_valued (Applied (Applied (Variable x) t) u) e = absurd cc
tree_valued (Applied (Applied (Function f) t) u) e =
    let one = is_numeral t || is_tree_value t in
    let two = is_numeral u || is_tree_value u in
    let both = and_left (bytes_eq f (codes "CONS") && one) two e in
    let first = either_valued t (λ d. tree_valued t d) (and_right (bytes_eq f (codes "CONS")) one both) in
    let rest = either_valued u (λ d. tree_valued u d) (and_right (bytes_eq f (codes "CONS") && one) two e) in
    (Pair first.0 rest.0, ap₂ Applied (ap₂ Applied (ap Function (names_same f (codes "CONS") (and_left (bytes_eq f (codes "CONS")) one both))) first.1) rest.1)
tree_valued (Applied (Applied (Applied s r) t) u) e = absurd cc

pub valued : (t : Term) → is_value t ≡ true → Valued t
valued t e = either_valued t (λ d. tree_valued t d) e
