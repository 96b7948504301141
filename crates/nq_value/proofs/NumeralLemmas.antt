-- What a numeral is not: T, F, or a call of another function than ADD1.
use Rattle.std.proofs.Common.{◌≡◌, ℕ, zero, suc, true, false, refl}
use Rattle.nq_logic.specs.Words.{true_term, zero_term, numeral}
use Rattle.nq_proof.specs.Clauses.{same_term}
use Rattle.nq_proof.specs.Values.{is_pair, is_call_of, is_true, first_of_pair, rest_of_pair, part_of}

pub same_term-truth : (n : ℕ) → false ≡ same_term (numeral n) true_term
unfolding numeral
same_term-truth zero = refl
same_term-truth (suc n) = refl

pub is_true-numeral : (n : ℕ) → true ≡ is_true (numeral n)
unfolding numeral
is_true-numeral zero = refl
is_true-numeral (suc n) = refl

pub is_pair-numeral : (n : ℕ) → false ≡ is_pair (numeral n)
unfolding numeral
is_pair-numeral zero = refl
is_pair-numeral (suc n) = refl

pub is_pack-numeral : (n : ℕ) → false ≡ is_call_of "PACK" (numeral n)
unfolding numeral
is_pack-numeral zero = refl
is_pack-numeral (suc n) = refl

pub is_minus-numeral : (n : ℕ) → false ≡ is_call_of "MINUS" (numeral n)
unfolding numeral
is_minus-numeral zero = refl
is_minus-numeral (suc n) = refl

pub first-numeral : (n : ℕ) → zero_term ≡ first_of_pair (numeral n)
unfolding numeral
first-numeral zero = refl
first-numeral (suc zero) = refl
first-numeral (suc (suc n)) = refl

pub rest-numeral : (n : ℕ) → zero_term ≡ rest_of_pair (numeral n)
unfolding numeral
rest-numeral zero = refl
rest-numeral (suc zero) = refl
rest-numeral (suc (suc n)) = refl

pub packed-numeral : (n : ℕ) → zero_term ≡ part_of "PACK" (numeral n)
unfolding numeral
packed-numeral zero = refl
packed-numeral (suc n) = refl

pub guts-numeral : (n : ℕ) → zero_term ≡ part_of "MINUS" (numeral n)
unfolding numeral
guts-numeral zero = refl
guts-numeral (suc n) = refl
