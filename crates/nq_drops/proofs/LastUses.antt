-- Where a line is used last, and which lines still stand after a line.
use Rattle.std.proofs.Common.{◌≡◌, ℕ, suc, ◌<◌, ◌≤◌, Bool, true, false, ◌||◌, List, [], ◌∷◌, refl, sym, ap, arith, if◌then◌else◌}
use Rattle.std.specs.Prelude.{nat_eq, nat_lt}
use Rattle.std.proofs.lemmas.Bool.{lt-ltb, ltb-true, le-ltb, ltb-false}
use Rattle.std.proofs.lemmas.Bool.Decides.{Decides-eqb}
use Rattle.nq_drops.specs.Uses.{is_listed, last_from, last_use}

-- the last use is not before one that was found
at_least : (rest : List (List ℕ)) (n l so_far m : ℕ) → m ≤ so_far → m ≤ n → m ≤ last_from rest n l so_far
at_least [] n l so_far m low next = low
at_least (here ∷ rest) n l so_far m low next = at_least rest (suc n) l (if is_listed l here then n else so_far) m (by_listed (is_listed l here)) (omega (arith, next))
  where
    by_listed : (b : Bool) → m ≤ (if b then n else so_far)
    by_listed true = next
    by_listed false = low

-- a use that has the line is not after the last
pub used_here : (here : List ℕ) (rest : List (List ℕ)) (n l so_far : ℕ) → is_listed l here ≡ true → n ≤ last_from (here ∷ rest) n l so_far
used_here here rest n l so_far e = at_least rest (suc n) l (if is_listed l here then n else so_far) n (by_listed (is_listed l here) e) (omega arith)
  where
    by_listed : (b : Bool) → b ≡ true → n ≤ (if b then n else so_far)
    by_listed true e = omega arith
    by_listed false e = absurd cc

or_true : (a b : Bool) → b ≡ true → a || b ≡ true
or_true true b e = refl
or_true false b e = e

module _ (all : List (List ℕ)) where
  -- whether a line stands after line n: it is used later, or not dropped at all
  abbrev pub still : ℕ → ℕ → Bool
  still n l = nat_lt n (last_use all l) || nat_lt (last_use all l) l

  pub stands_still : (n l : ℕ) → n < last_use all l → still n l ≡ true
  stands_still n l later = ap (λ b. b || nat_lt (last_use all l) l) (lt-ltb n (last_use all l) later)

  -- so it is just after its own line
  abbrev pub at_first : ℕ → ℕ → Bool
  at_first n l = nat_lt n l || still n l

  pub new_stands : (n : ℕ) → at_first n (suc n) ≡ true
  new_stands n = ap (λ b. b || still n (suc n)) (lt-ltb n (suc n) (omega arith))

  pub old_stands : (n l : ℕ) → l ≤ n → at_first n l ≡ still n l
  old_stands n l low = ap (λ b. b || still n l) (le-ltb n l low)

  -- those that are dropped after a line stood until then
  pub ended_stood : (n l : ℕ) → nat_eq (last_use all l) (suc n) ≡ true → at_first n l ≡ true
  ended_stood n l e = let same = (Decides-eqb (last_use all l) (suc n)).0 e in or_true (nat_lt n l) (still n l) (stands_still n l (omega (arith, same)))

  -- the others stand on
  pub others_stand : (n l : ℕ) → l ≤ suc n → still (suc n) l ≡ (if nat_eq (last_use all l) (suc n) then false else at_first n l)
  others_stand n l low = by_end (nat_eq (last_use all l) (suc n)) refl
    where
      neither : (a b : Bool) → a ≡ false → b ≡ false → a || b ≡ false
      neither true b e f = absurd cc
      neither false b e f = f

      same_or : (a b c d : Bool) → (b ≡ true → d ≡ true) → (d ≡ true → a || b ≡ true) → a ≡ d → d || c ≡ a || (b || c)
      same_or true b c d up down same = ap (λ d. d || c) (sym same)
      same_or false true c d up down same = ap (λ d. d || c) (up refl)
      same_or false false c d up down same = ap (λ d. d || c) (sym same)

      -- the new number is before the last use, or the last use is before the line
      by_last : (a b c d : Bool) → nat_lt n l ≡ a → nat_lt n (last_use all l) ≡ b → nat_lt (last_use all l) l ≡ c → nat_lt (suc n) (last_use all l) ≡ d → ((last_use all l) ≡ suc n → ⊥) → d || c ≡ a || (b || c)
      by_last a b true true ea eb ec ed other = sym (or_true a (b || true) (or_true b true refl))
      by_last a b true false ea eb ec ed other = sym (or_true a (b || true) (or_true b true refl))
      by_last a true false true ea eb ec ed other = sym (or_true a true refl)
      by_last a false false true ea eb ec ed other =
          let x = ltb-false n (last_use all l) eb in let y = ltb-true (suc n) (last_use all l) ed in absurd (omega (arith, x, y))
      by_last a true false false ea eb ec ed other =
          let x = ltb-true n (last_use all l) eb in let y = ltb-false (suc n) (last_use all l) ed in absurd (other (omega (arith, x, y)))
      by_last true false false false ea eb ec ed other =
          let x = ltb-true n l ea in let y = ltb-false n (last_use all l) eb in let z = ltb-false (last_use all l) l ec in absurd (omega (arith, x, y, z))
      by_last false false false false ea eb ec ed other = refl

      by_end : (b : Bool) → nat_eq (last_use all l) (suc n) ≡ b → still (suc n) l ≡ (if b then false else at_first n l)
      by_end true e =
          let same = (Decides-eqb (last_use all l) (suc n)).0 e in
          neither (nat_lt (suc n) (last_use all l)) (nat_lt (last_use all l) l) (le-ltb (suc n) (last_use all l) (omega (arith, same))) (le-ltb (last_use all l) l (omega (arith, same, low)))
      by_end false e =
          by_last (nat_lt n l) (nat_lt n (last_use all l)) (nat_lt (last_use all l) l) (nat_lt (suc n) (last_use all l)) refl refl refl refl (λ same. differ (nat_eq (last_use all l) (suc n)) e ((Decides-eqb (last_use all l) (suc n)).1 same))
        where
          differ : (b : Bool) → b ≡ false → b ≡ true → ⊥
          differ b f t = cc
