-- New variables: they are distinct, unused, and as many as are asked for.
use Rattle.std.proofs.Common.{◌≡◌, ℕ, zero, suc, ◌+◌, ◌*◌, ◌-◌, ◌/◌, ◌%◌, ◌≤◌, nat_lt, Bool, true, false, ◌||◌, if◌then◌else◌, List, [], ◌∷◌, ◌++◌, length, take, refl, sym, ap, ◌∙◌, subst, inl, inr, arith}
use Rattle.std.specs.Prelude.{bytes_eq}
use Rattle.std.proofs.lemmas.Bool.Decides.{nat_tests}
use Rattle.std.proofs.lemmas.List.{length-take-le}
use Rattle.nq_logic.specs.Terms.{Name, IsAmong}
use Rattle.nq_logic.specs.Names.{has_name}
use Rattle.nq_logic.specs.Shells.{digits_of}
use Rattle.nq_logic.specs.Admissible.{AreDistinct}
use Rattle.nq_bank.proofs.Texts.{bytes_eq-true}
use Rattle.nq_goals.specs.NewVariables.{numbered, unused_from}
use Rattle.nq_goals.specs.Eliminating.{without_name}
use Rattle.nq_moves.specs.Laws.{AreNewNames}

-- digits read back
read_back : ℕ → List ℕ → ℕ
read_back n [] = n
read_back n (d ∷ ds) = read_back (n * 10 + (d - 48)) ds

read_last : (n d : ℕ) (ds : List ℕ) → read_back n (ds ++ (d ∷ [])) ≡ read_back n ds * 10 + (d - 48)
unfolding read_back
read_last n d [] = refl
read_last n d (c ∷ ds) = read_last (n * 10 + (c - 48)) d ds

digits_read : (places n : ℕ) → n ≤ places → read_back 0 (digits_of places n) ≡ n
unfolding read_back
digits_read zero n l = omega arith
digits_read (suc places) n l = by_size (λ m. digits_read places (n / 10) m) (nat_lt n 10) refl
  where
    by_size : (n / 10 ≤ places → read_back 0 (digits_of places (n / 10)) ≡ n / 10) → (b : Bool) → nat_lt n 10 ≡ b → read_back 0 (if b then (48 + n) ∷ [] else digits_of places (n / 10) ++ ((48 + n % 10) ∷ [])) ≡ n
    by_size again true e = omega arith
    by_size again false e =
        let more : 10 ≤ n = grind (arith, nat_tests) in
        let fewer : n / 10 ≤ places = omega arith in
        let rest = again fewer in
        let last = read_last 0 (48 + n % 10) (digits_of places (n / 10)) in
        subst (λ m. m ≡ n) (sym last) (subst (λ m. m * 10 + (48 + n % 10 - 48) ≡ n) (sym rest) (omega arith))

tail_same : (x : ℕ) (xs ys : List ℕ) → ◌≡◌ {A = List ℕ} (x ∷ xs) (x ∷ ys) → xs ≡ ys
tail_same x xs ys e = cc

numbers_same : (j k : ℕ) → numbered j ≡ numbered k → j ≡ k
numbers_same j k e =
    let same : digits_of j j ≡ digits_of k k = tail_same 86 (digits_of j j) (digits_of k k) e in
    let lj : j ≤ j = omega arith in
    let lk : k ≤ k = omega arith in
    sym (digits_read j j lj) ∙ ap (read_back 0) same ∙ digits_read k k lk

numbered_apart : (j k : ℕ) → suc k ≤ j → bytes_eq (numbered j) (numbered k) ≡ false
numbered_apart j k later = by_test (bytes_eq (numbered j) (numbered k)) refl
  where
    by_test : (b : Bool) → bytes_eq (numbered j) (numbered k) ≡ b → b ≡ false
    by_test false e = refl
    by_test true e = let same : j ≡ k = numbers_same j k (bytes_eq-true (numbered j) (numbered k) e) in absurd (omega (arith, same, later))

-- a numbered variable, from a number on
record IsNumbered (k : ℕ) (x : Name) : Type 0 where
  number : ℕ
  least : k ≤ number
  is : x ≡ numbered number

later_numbered : (k : ℕ) (x : Name) → IsNumbered (suc k) x → IsNumbered k x
later_numbered k x h = record { number = h.number; least = omega (arith, h.least); is = h.is }

are_numbered : (n k : ℕ) (used : List Name) (x : Name) → IsAmong x (unused_from n k used) → IsNumbered k x
are_numbered zero k used x m = absurd m
are_numbered (suc n) k used x m = by_test (λ r. later_numbered k x (are_numbered n (suc k) used x r)) (has_name (numbered k) used) m
  where
    by_test : (IsAmong x (unused_from n (suc k) used) → IsNumbered k x) → (b : Bool) → IsAmong x (if b then unused_from n (suc k) used else numbered k ∷ unused_from n (suc k) used) → IsNumbered k x
    by_test again true r = again r
    by_test again false (inl e) = record { number = k; least = omega arith; is = e }
    by_test again false (inr r) = again r

are_unused : (n k : ℕ) (used : List Name) (x : Name) → IsAmong x (unused_from n k used) → has_name x used ≡ false
are_unused zero k used x m = absurd m
are_unused (suc n) k used x m = by_test (are_unused n (suc k) used x) (has_name (numbered k) used) refl m
  where
    by_test : (IsAmong x (unused_from n (suc k) used) → has_name x used ≡ false) → (b : Bool) → has_name (numbered k) used ≡ b → IsAmong x (if b then unused_from n (suc k) used else numbered k ∷ unused_from n (suc k) used) → has_name x used ≡ false
    by_test again true e r = again r
    by_test again false e (inl same) = ap (λ y. has_name y used) same ∙ e
    by_test again false e (inr r) = again r

are_apart : (n k : ℕ) (used : List Name) → AreDistinct (unused_from n k used)
are_apart zero k used = tt
are_apart (suc n) k used = by_test (are_apart n (suc k) used) (has_name (numbered k) used)
  where
    no_more : IsAmong (numbered k) (unused_from n (suc k) used) → ⊥
    no_more m =
        let h : IsNumbered (suc k) (numbered k) = are_numbered n (suc k) used (numbered k) m in
        let same : k ≡ h.number = numbers_same k h.number h.is in
        let least : suc k ≤ h.number = h.least in
        absurd (omega (arith, same, least))

    by_test : AreDistinct (unused_from n (suc k) used) → (b : Bool) → AreDistinct (if b then unused_from n (suc k) used else numbered k ∷ unused_from n (suc k) used)
    by_test rest true = rest
    by_test rest false = (no_more, rest)

taken_among : (i : ℕ) (xs : List Name) (x : Name) → IsAmong x (take i xs) → IsAmong x xs
taken_among zero xs x m = absurd m
taken_among (suc i) [] x m = absurd m
taken_among (suc i) (y ∷ xs) x (inl e) = inl e
taken_among (suc i) (y ∷ xs) x (inr m) = inr (taken_among i xs x m)

taken_apart : (i : ℕ) (xs : List Name) → AreDistinct xs → AreDistinct (take i xs)
taken_apart zero xs h = tt
taken_apart (suc i) [] h = tt
taken_apart (suc i) (x ∷ xs) h = (λ m. h.0 (taken_among i xs x m), taken_apart i xs h.1)

-- names without one of them
or_pick : (a b : Bool) → a ≡ false → (a || b) ≡ b
or_pick true b e = absurd cc
or_pick false b e = refl

has_without : (z x : Name) (ys : List Name) → bytes_eq z x ≡ false → has_name z (without_name x ys) ≡ has_name z ys
has_without z x [] apart = refl
has_without z x (y ∷ ys) apart = by_test (has_without z x ys apart) (bytes_eq x y) refl
  where
    by_test : has_name z (without_name x ys) ≡ has_name z ys → (b : Bool) → bytes_eq x y ≡ b → has_name z (if b then without_name x ys else y ∷ without_name x ys) ≡ (bytes_eq z y || has_name z ys)
    by_test again true e = again ∙ sym (or_pick (bytes_eq z y) (has_name z ys) (ap (bytes_eq z) (sym (bytes_eq-true x y e)) ∙ apart))
    by_test again false e = ap (λ b. bytes_eq z y || b) again

no_longer : (x : Name) (ys : List Name) → length (without_name x ys) ≤ length ys
no_longer x [] = omega arith
no_longer x (y ∷ ys) = by_test (no_longer x ys) (bytes_eq x y)
  where
    by_test : length (without_name x ys) ≤ length ys → (b : Bool) → length (if b then without_name x ys else y ∷ without_name x ys) ≤ suc (length ys)
    by_test again true = omega (arith, again)
    by_test again false = omega (arith, again)

shorter : (x : Name) (ys : List Name) → has_name x ys ≡ true → suc (length (without_name x ys)) ≤ length ys
shorter x [] h = absurd cc
shorter x (y ∷ ys) h = by_test (no_longer x ys) (shorter x ys) (bytes_eq x y) refl h
  where
    by_test : length (without_name x ys) ≤ length ys → (has_name x ys ≡ true → suc (length (without_name x ys)) ≤ length ys) → (b : Bool) → bytes_eq x y ≡ b → (b || has_name x ys) ≡ true → suc (length (if b then without_name x ys else y ∷ without_name x ys)) ≤ suc (length ys)
    by_test most again true e k = omega (arith, most)
    by_test most again false e k = let less : suc (length (without_name x ys)) ≤ length ys = again k in omega (arith, less)

unused_same : (n k : ℕ) (used other : List Name) → ((j : ℕ) → k ≤ j → has_name (numbered j) used ≡ has_name (numbered j) other) → unused_from n k used ≡ unused_from n k other
unused_same zero k used other same = refl
unused_same (suc n) k used other same =
    let least : k ≤ k = omega arith in
    let rest = unused_same n (suc k) used other (λ j later. same j (omega (arith, later))) in
    ap (λ b. if b then unused_from n (suc k) used else numbered k ∷ unused_from n (suc k) used) (same k least) ∙ ap (λ r. if has_name (numbered k) other then r else numbered k ∷ r) rest

-- at most one is lost for each used name
pub are_many : (n k : ℕ) (used : List Name) → n ≤ length (unused_from n k used) + length used
are_many zero k used = omega arith
are_many (suc n) k used = by_test (are_many n (suc k) used) (are_many n (suc k) (without_name (numbered k) used)) (has_name (numbered k) used) refl
  where
    by_test : n ≤ length (unused_from n (suc k) used) + length used → n ≤ length (unused_from n (suc k) (without_name (numbered k) used)) + length (without_name (numbered k) used) → (b : Bool) → has_name (numbered k) used ≡ b → suc n ≤ length (if b then unused_from n (suc k) used else numbered k ∷ unused_from n (suc k) used) + length used
    by_test all fewer true e =
        let same = ap length (unused_same n (suc k) used (without_name (numbered k) used) (λ j later. sym (has_without (numbered j) (numbered k) used (numbered_apart j k later)))) in
        let less = shorter (numbered k) used e in
        omega (arith, fewer, same, less)
    by_test all fewer false e = omega (arith, all)

pub new_names : (used : List Name) (count : ℕ) → AreNewNames used count
new_names used count =
    let n : ℕ = length used + count in
    let many : n ≤ length (unused_from n 1 used) + length used = are_many n 1 used in
    let enough : count ≤ length (unused_from n 1 used) = omega (arith, many) in
    record {
      distinct = taken_apart count (unused_from n 1 used) (are_apart n 1 used);
      unused = λ x m. are_unused n 1 used x (taken_among count (unused_from n 1 used) x m);
      many = length-take-le count (unused_from n 1 used) enough;
    }
