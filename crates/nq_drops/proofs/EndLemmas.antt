-- The lines that end at a line, as more lines are seen.
use Rattle.std.proofs.Common.{◌≡◌, ℕ, zero, suc, ◌+◌, ◌-◌, ◌<◌, ◌≤◌, Bool, true, false, List, [], ◌∷◌, ◌++◌, map, get_or, nat_eq, add-one, refl, sym, ap, ◌∙◌, append-nil, arith, if◌then◌else◌}
use Rattle.std.specs.Prelude.{nat_lt, nat_le, ◌&&◌, length}
use Rattle.std.proofs.lemmas.Bool.{lt-ltb, le-ltb, ltb-true, ltb-false, leb-true, leb-false}
use Rattle.std.proofs.lemmas.Bool.Decides.{Decides-eqb}
use Rattle.std.proofs.lemmas.List.{get_or-map, get_or-set_other, length-set}
use Rattle.std.proofs.lemmas.Grind.{get_or-set_at}
use Rattle.std.proofs.Math.ListN.{set}
use Rattle.nq_drops.specs.Drops.{numbers_where}

-- the lesser of two numbers
abbrev pub up_to : ℕ → ℕ → ℕ
up_to k n = if nat_lt k n then k else n

pub up_to_all : (k n : ℕ) → n ≤ k → up_to k n ≡ n
up_to_all k n low = ap (λ b. if b then k else n) (le-ltb k n low)

numbers_end : (p : ℕ → Bool) (k m : ℕ) → numbers_where p k (suc m) ≡ numbers_where p k m ++ (if p (k + m) then (k + m) ∷ [] else [])
numbers_end p k zero = ap (λ n. if p n then n ∷ [] else []) (plus_none k)
  where
    plus_none : (k : ℕ) → k ≡ k + 0
    plus_none k = omega arith
numbers_end p k (suc m) = by_test (p k) (numbers_end p (suc k) m ∙ ap (λ n. numbers_where p (suc k) m ++ (if p n then n ∷ [] else [])) (longer k m))
  where
    longer : (k m : ℕ) → suc k + m ≡ k + suc m
    longer k m = omega arith

    by_test : (b : Bool) → numbers_where p (suc k) (suc m) ≡ numbers_where p (suc k) m ++ (if p (k + suc m) then (k + suc m) ∷ [] else []) →
        (if b then k ∷ numbers_where p (suc k) (suc m) else numbers_where p (suc k) (suc m)) ≡ (if b then k ∷ numbers_where p (suc k) m else numbers_where p (suc k) m) ++ (if p (k + suc m) then (k + suc m) ∷ [] else [])
    by_test true e = ap (λ rest. k ∷ rest) e
    by_test false e = e

pub numbers_same : (p q : ℕ → Bool) (k m : ℕ) → ((l : ℕ) → k ≤ l → l < k + m → p l ≡ q l) → numbers_where p k m ≡ numbers_where q k m
numbers_same p q k zero same = refl
numbers_same p q k (suc m) same =
    let rest = numbers_same p q (suc k) m (λ l low high. same l (omega (arith, low)) (omega (arith, high))) in
    ap (λ b. if b then k ∷ numbers_where p (suc k) m else numbers_where p (suc k) m) (same k (omega arith) (omega arith)) ∙ ap (λ ls. if q k then k ∷ ls else ls) rest

module _ (last : List ℕ) (n : ℕ) where
  abbrev ends_here : ℕ → Bool
  ends_here l = nat_eq (get_or last (l - 1) 0) n

  longer : (k : ℕ) → k < n → up_to (suc k) n ≡ suc k
  longer k low = by_less (nat_lt (suc k) n) refl
    where
      by_less : (b : Bool) → nat_lt (suc k) n ≡ b → (if b then suc k else n) ≡ suc k
      by_less true e = refl
      by_less false e = let f = ltb-false (suc k) n e in omega (arith, f, low)

  one_more : (k : ℕ) → k < n → numbers_where ends_here 1 (up_to (suc k) n) ≡ numbers_where ends_here 1 (up_to k n) ++ (if nat_eq (get_or last k 0) n then suc k ∷ [] else [])
  one_more k low =
      ap (numbers_where ends_here 1) (longer k low)
      ∙ numbers_end ends_here 1 k
      ∙ ap (λ m. numbers_where ends_here 1 k ++ (if nat_eq (get_or last (m - 1) 0) n then m ∷ [] else [])) (next k)
      ∙ ap (λ m. numbers_where ends_here 1 k ++ (if nat_eq (get_or last m 0) n then suc k ∷ [] else [])) (back k)
      ∙ ap (λ b. numbers_where ends_here 1 (if b then k else n) ++ (if nat_eq (get_or last k 0) n then suc k ∷ [] else [])) (sym (lt-ltb k n low))
    where
      next : (k : ℕ) → 1 + k ≡ suc k
      next k = omega arith

      back : (k : ℕ) → suc k - 1 ≡ k
      back k = omega arith

  -- a line that ends here
  pub end_here : (k : ℕ) → get_or last k 0 ≡ n → k < n → numbers_where ends_here 1 (up_to (suc k) n) ≡ numbers_where ends_here 1 (up_to k n) ++ (suc k ∷ [])
  end_here k is low = one_more k low ∙ ap (λ b. numbers_where ends_here 1 (up_to k n) ++ (if b then suc k ∷ [] else [])) ((Decides-eqb (get_or last k 0) n).1 is)

  -- a line that does not
  pub end_there : (k : ℕ) → (get_or last k 0 ≡ n → k < n → ⊥) → numbers_where ends_here 1 (up_to (suc k) n) ≡ numbers_where ends_here 1 (up_to k n)
  end_there k other = by_less (nat_lt k n) refl
    where
      nothing : (xs : List ℕ) (b : Bool) → (b ≡ true → ⊥) → xs ++ (if b then suc k ∷ [] else []) ≡ xs
      nothing xs true f = absurd (f refl)
      nothing xs false f = append-nil xs

      by_less : (b : Bool) → nat_lt k n ≡ b → numbers_where ends_here 1 (up_to (suc k) n) ≡ numbers_where ends_here 1 (up_to k n)
      by_less true e =
          let low = ltb-true k n e in
          one_more k low ∙ nothing (numbers_where ends_here 1 (up_to k n)) (nat_eq (get_or last k 0) n) (λ same. other ((Decides-eqb (get_or last k 0) n).0 same) low)
      by_less false e = let high = ltb-false k n e in ap (numbers_where ends_here 1) (up_to_all (suc k) n (omega (arith, high)) ∙ sym (up_to_all k n high))

  -- so it is with one more line
  step_more : (k : ℕ) (old new : List ℕ) → n ≤ length last → new ≡ (if nat_eq (get_or last k 0) n && nat_le (suc k) (get_or last k 0) then old ++ (suc k ∷ []) else old) →
      old ≡ numbers_where ends_here 1 (up_to k n) → new ≡ numbers_where ends_here 1 (up_to (suc k) n)
  step_more k old new fits is so_far = is ∙ by_tests (nat_eq (get_or last k 0) n) (nat_le (suc k) (get_or last k 0)) refl refl
    where
      differ : (b : Bool) → b ≡ false → b ≡ true → ⊥
      differ b f t = cc

      by_tests : (a b : Bool) → nat_eq (get_or last k 0) n ≡ a → nat_le (suc k) (get_or last k 0) ≡ b → (if a && b then old ++ (suc k ∷ []) else old) ≡ numbers_where ends_here 1 (up_to (suc k) n)
      by_tests true true e f =
          let same = (Decides-eqb (get_or last k 0) n).0 e in
          let low = leb-true (suc k) (get_or last k 0) f in
          ap (λ ls. ls ++ (suc k ∷ [])) so_far ∙ sym (end_here k same (omega (arith, same, low)))
      by_tests true false e f =
          let high = leb-false (suc k) (get_or last k 0) f in
          so_far ∙ sym (end_there k (λ same low. omega (arith, same, low, high)))
      by_tests false b e f = so_far ∙ sym (end_there k (λ same low. differ (nat_eq (get_or last k 0) n) e ((Decides-eqb (get_or last k 0) n).1 same)))

  pub end_more : (k line m : ℕ) (old new : List ℕ) → n ≤ length last → line ≡ suc k → m ≡ get_or last k 0 → new ≡ (if nat_eq m n && nat_le line m then old ++ (line ∷ []) else old) →
      old ≡ numbers_where ends_here 1 (up_to k n) → new ≡ numbers_where ends_here 1 (up_to (k + 1) n)
  end_more k line m old new fits line_is m_is is so_far =
      step_more k old new fits
      (is ∙ ap (λ x. if nat_eq x n && nat_le line x then old ++ (line ∷ []) else old) m_is ∙ ap (λ x. if nat_eq (get_or last k 0) n && nat_le x (get_or last k 0) then old ++ (x ∷ []) else old) line_is) so_far
      ∙ ap (λ m. numbers_where ends_here 1 (up_to m n)) (sym (add-one k))

-- a list among others with one more number
pub put_at : {V : Type 0} (items : V → List ℕ) (vs : List V) (n line : ℕ) (v w : V) → nat_le line n ≡ true → n < length vs → w ≡ get_or vs n w → items v ≡ items w ++ (line ∷ []) → (k : ℕ) → k < length vs →
    get_or (map items (set vs n v)) k [] ≡ (if nat_eq n k && nat_le line n then get_or (map items vs) k [] ++ (line ∷ []) else get_or (map items vs) k [])
put_at {V} items vs n line v w low within is added k below = by_same (nat_eq n k) refl ∙ ap (λ b. if nat_eq n k && b then get_or (map items vs) k [] ++ (line ∷ []) else get_or (map items vs) k []) (sym low)
  where
    differ : (b : Bool) → b ≡ false → b ≡ true → ⊥
    differ b f t = cc

    new_there : k < length (set vs n v)
    new_there = let same = length-set vs n v in omega (arith, same, below)

    by_same : (b : Bool) → nat_eq n k ≡ b → get_or (map items (set vs n v)) k [] ≡ (if b && true then get_or (map items vs) k [] ++ (line ∷ []) else get_or (map items vs) k [])
    by_same true e =
        let same = (Decides-eqb n k).0 e in
        get_or-map items (set vs n v) k v [] new_there
        ∙ ap items (get_or-set_at vs n k v v (sym same) within)
        ∙ added
        ∙ ap (λ x. items x ++ (line ∷ [])) (is ∙ ap (λ m. get_or vs m w) same)
        ∙ ap (λ ls. ls ++ (line ∷ [])) (sym (get_or-map items vs k w [] below))
    by_same false e =
        get_or-map items (set vs n v) k v [] new_there
        ∙ ap items (get_or-set_other vs n k v v (λ same. differ (nat_eq n k) e ((Decides-eqb n k).1 (sym same))))
        ∙ sym (get_or-map items vs k v [] below)
