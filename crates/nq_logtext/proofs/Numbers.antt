-- The number that a text spells, and the text that spells a number.
use Rattle.std.proofs.Common.{◌≡◌, ℕ, ◌^◌, ◌<◌, ◌≤◌, Bool, true, false, cond, ltb, List, Option, Some, None, Result, Ok, Err, refl, sym, ap, subst, ◌∙◌, arith}
use Rattle.std.specs.Prelude.{◌&&◌, decimal}
use Rattle.std.specs.Result.{OkIff, result_ok}
use Rattle.std.specs.Str.{bytes_eq, IsUtf8}
use Rattle.std.specs.Str.Parse.{digits_value, ParsesUnsigned}
use Rattle.std.proofs.lemmas.Bool.{lt-ltb, ltb-true, ltb-false}
use Rattle.std.proofs.lemmas.Fmt.{decimal_is_IsNumeral_wide, parse-decimal_wide, IsAscii-decimal_wide}
use Rattle.std.proofs.lemmas.Slice.Eq.{bytes_eq-Decides}
use Rattle.std.proofs.lemmas.Str.{IsUtf8-from_ascii}
use Rattle.nq_logtext.specs.Reading.{◌>>=◌, number_of}

pub none_unless : {A : Type 0} (r : Option A) → ((x : A) → r ≡ Some x → ⊥) → r ≡ None
none_unless None h = refl
none_unless (Some x) h = absurd (h x refl)

chosen : (a b : Bool) (v n : ℕ) → cond (a && b) (Some v) None ≡ Some n → (a ≡ true) × (b ≡ true) × (v ≡ n)
chosen true true v n e = (refl, refl, cc)
chosen true false v n e = absurd cc
chosen false b v n e = absurd cc

pub number_takes : (limit : ℕ) (w : List ℕ) (n : ℕ) → number_of limit w ≡ Some n → (w ≡ decimal n) × (n < limit)
unfolding number_of
number_takes limit w n e =
    let v = digits_value 10 w in
    let h = chosen (ltb v limit) (bytes_eq (decimal v) w) v n e in
    (sym ((bytes_eq-Decides (decimal v) w).0 h.1) ∙ ap decimal h.2, subst (λ (x : ℕ). x < limit) h.2 (ltb-true v limit h.0))

pub number_again : (limit n : ℕ) → n < 10 ^ 64 → n < limit → number_of limit (decimal n) ≡ Some n
unfolding number_of
number_again limit n wide lt =
    let value : digits_value 10 (decimal n) ≡ n = (decimal_is_IsNumeral_wide n wide).1 in
    let below : ltb n limit ≡ true = lt-ltb n limit lt in
    let same : bytes_eq (decimal n) (decimal n) ≡ true = (bytes_eq-Decides (decimal n) (decimal n)).1 refl in
    rw (value, below, same) refl

pub number_none : (limit : ℕ) (w : List ℕ) → ((n : ℕ) → n < limit → w ≡ decimal n → ⊥) → None ≡ number_of limit w
number_none limit w h = sym (none_unless (number_of limit w) (λ n e. let t = number_takes limit w n e in h n t.1 t.0))

pub decimal_utf8 : (n : ℕ) (w : List ℕ) → n < 10 ^ 64 → w ≡ decimal n → IsUtf8 w
decimal_utf8 n w wide e = subst IsUtf8 (sym e) (IsUtf8-from_ascii (decimal n) (IsAscii-decimal_wide n wide))

abbrev good : {E : Type 0} → ℕ → Result ℕ E
good n = Ok n

pub good_is : {E : Type 0} (m n : ℕ) → good {E = E} m ≡ good {E = E} n → m ≡ n
good_is m n e = cc

-- a number of k bits whose own text is another is not spelled at all
pub spelled_other : {E : Type 0} (k : ℕ) (w : List ℕ) (m : ℕ) (r : Result ℕ E) → ((n : ℕ) → n < 2 ^ k → n < 10 ^ 64) → ParsesUnsigned k 10 w r → r ≡ Ok m → (decimal m ≡ w → ⊥) → (n : ℕ) → n < 2 ^ k → w ≡ decimal n → ⊥
spelled_other k w m r small parses is other n lt e =
    let same = good_is m n (sym is ∙ parse-decimal_wide k n w r lt (small n lt) e parses) in
    other (ap decimal same ∙ sym e)

abbrev some : ℕ → Option ℕ
some n = Some n

-- the number, where it is below the limit
abbrev below : ℕ → ℕ → Option ℕ
below limit n = cond (ltb n limit) (Some n) None

below_yes : (limit n : ℕ) → n < limit → below limit n ≡ Some n
below_yes limit n lt = rw (lt-ltb n limit lt) refl

below_no : (limit n : ℕ) → (n < limit → ⊥) → below limit n ≡ None
below_no limit n h = by_test (ltb n limit) refl
  where
    by_test : (b : Bool) → ltb n limit ≡ b → cond b (Some n) None ≡ None
    by_test true e = absurd (h (ltb-true n limit e))
    by_test false e = refl

narrow : (limit wider v : ℕ) → limit ≤ wider → (low high same : Bool) → ltb v limit ≡ low → ltb v wider ≡ high
    → cond (low && same) (Some v) None ≡ (cond (high && same) (Some v) None >>= below limit)
narrow limit wider v le true true true e f = rw e refl
narrow limit wider v le true false same e f = let small = ltb-true v limit e in let large = ltb-false v wider f in absurd (omega arith)
narrow limit wider v le true true false e f = refl
narrow limit wider v le false true true e f = rw e refl
narrow limit wider v le false true false e f = refl
narrow limit wider v le false false same e f = refl

-- a number below a limit is one below a greater limit
number_narrows : (limit wider : ℕ) (w : List ℕ) → limit ≤ wider → number_of limit w ≡ (number_of wider w >>= below limit)
unfolding number_of
number_narrows limit wider w le =
    let v = digits_value 10 w in narrow limit wider v le (ltb v limit) (ltb v wider) (bytes_eq (decimal v) w) refl refl

pub narrowed_none : (limit wider : ℕ) (w : List ℕ) → limit ≤ wider → None ≡ number_of wider w → None ≡ number_of limit w
narrowed_none limit wider w le none = sym (number_narrows limit wider w le ∙ ap (λ (o : Option ℕ). o >>= below limit) (sym none))

pub narrowed : {E : Type 0} (limit wider : ℕ) (w : List ℕ) (n : ℕ) (r : Result ℕ E) → limit ≤ wider → Some n ≡ number_of wider w → OkIff r (n < limit) n → result_ok r ≡ number_of limit w
narrowed limit wider w n r le read gives = by_result r gives ∙ sym (number_narrows limit wider w le ∙ ap (λ (o : Option ℕ). o >>= below limit) (sym read))
  where
    by_result : {E : Type 0} (r : Result ℕ E) → OkIff r (n < limit) n → result_ok r ≡ below limit n
    by_result (Ok x) h = ap some h.1 ∙ sym (below_yes limit n h.0)
    by_result (Err e) h = sym (below_no limit n h)
