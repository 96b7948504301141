-- A symbol in upper case is a name that a form can hold.
use Rattle.std.proofs.Common.{◌≡◌, ◌<◌, ℕ, zero, suc, Bool, true, false, List, [], ◌∷◌, length, refl, ap, sym, subst, inl, inr, arith, leb-true, eqb-true}
use Rattle.std.specs.Prelude.{◌⊎◌, ◌&&◌, ◌||◌, IsTrue, nat_eq, nat_le, if◌then◌else◌}
use Rattle.std.specs.List.{list_all}
use Rattle.nq_form.specs.Spelling.{IsName, is_capital}
use Rattle.nq_form.specs.Token.{begins_symbol}
use Rattle.nq_form.proofs.Spelling.{and_front, and_back}
use Rattle.nq_logtext.specs.Symbols.{is_between, is_constituent, is_symbol}
use Rattle.nq_logtext.specs.Symbols as log

-- ---- what holds of each byte below a bound, by a table

abbrev all_below : (ℕ → Bool) → ℕ → Bool
all_below p zero = true
all_below p (suc n) = p n && all_below p n

last_or_before : (b n : ℕ) → b < suc n → (b ≡ n) ⊎ (b < n)
last_or_before zero zero lt = inl refl
last_or_before zero (suc n) lt = inr (omega arith)
last_or_before (suc b) zero lt = absurd (omega (arith, lt))
last_or_before (suc b) (suc n) lt = elim (last_or_before b n (omega (arith, lt))) as (λ o. (suc b ≡ suc n) ⊎ (suc b < suc n)) [ inl e ↦ inl (ap suc e) | inr l ↦ inr (omega (arith, l)) ]

at_byte : (p : ℕ → Bool) (n : ℕ) → IsTrue (all_below p n) → (b : ℕ) → b < n → IsTrue (p b)
at_byte p zero all b lt = absurd (omega (arith, lt))
at_byte p (suc n) all b lt =
    elim (last_or_before b n lt) as (λ o. IsTrue (p b)) [
      | inl same ↦ subst (λ (k : ℕ). IsTrue (p k)) (sym same) (and_front (p n) (all_below p n) all)
      | inr lower ↦ at_byte p n (and_back (p n) (all_below p n) all) b lower
    ]

where_so : (c x : Bool) → IsTrue c → IsTrue (if c then x else true) → IsTrue x
where_so true x so holds = holds
where_so false x so holds = absurd cc

both : (a b : Bool) → IsTrue a → IsTrue b → IsTrue (a && b)
both true b h g = g
both false b h g = h

-- ---- a byte of a log's name is a capital

between_low : (low high b : ℕ) → high < 128 → IsTrue (is_between low high b) → b < 128
between_low low high b small h = let least = leb-true b high (and_back (nat_le low b) (nat_le b high) h) in omega (arith, least, small)

just_low : (k b : ℕ) → k < 128 → IsTrue (nat_eq b k) → b < 128
just_low k b small h = let same : b ≡ k = eqb-true b k h in omega (arith, same, small)

either_low : (a c : Bool) (b : ℕ) → (IsTrue a → b < 128) → (IsTrue c → b < 128) → IsTrue (a || c) → b < 128
either_low true c b f g h = f refl
either_low false c b f g h = g h

constituent_low : (b : ℕ) → IsTrue (is_constituent b) → b < 128
constituent_low b h =
    let one = is_between 64 91 b || is_between 93 95 b in
    let two = one || is_between 60 63 b in
    let three = two || is_between 45 58 b in
    let four = three || is_between 36 38 b in
    let five = four || is_between 42 43 b in
    let six = five || nat_eq b 33 in
    let seven = six || nat_eq b 123 in
    let eight = seven || nat_eq b 125 in
    let one_low = either_low (is_between 64 91 b) (is_between 93 95 b) b (between_low 64 91 b (omega arith)) (between_low 93 95 b (omega arith)) in
    let two_low = either_low one (is_between 60 63 b) b one_low (between_low 60 63 b (omega arith)) in
    let three_low = either_low two (is_between 45 58 b) b two_low (between_low 45 58 b (omega arith)) in
    let four_low = either_low three (is_between 36 38 b) b three_low (between_low 36 38 b (omega arith)) in
    let five_low = either_low four (is_between 42 43 b) b four_low (between_low 42 43 b (omega arith)) in
    let six_low = either_low five (nat_eq b 33) b five_low (just_low 33 b (omega arith)) in
    let seven_low = either_low six (nat_eq b 123) b six_low (just_low 123 b (omega arith)) in
    let eight_low = either_low seven (nat_eq b 125) b seven_low (just_low 125 b (omega arith)) in
    either_low eight (nat_eq b 126) b eight_low (just_low 126 b (omega arith)) h

abbrev constituent_kept : ℕ → Bool
constituent_kept b = if is_constituent b then is_capital b else true

capital : (b : ℕ) → IsTrue (is_constituent b) → IsTrue (is_capital b)
capital b h = where_so (is_constituent b) (is_capital b) h (at_byte constituent_kept 128 refl b (constituent_low b h))

capitals : (w : List ℕ) → IsTrue (list_all is_constituent w) → IsTrue (list_all is_capital w)
capitals [] h = refl
capitals (b ∷ w) h =
    both (is_capital b) (list_all is_capital w) (capital b (and_front (is_constituent b) (list_all is_constituent w) h)) (capitals w (and_back (is_constituent b) (list_all is_constituent w) h))

begins : (w : List ℕ) → IsTrue (log.begins_symbol w) → IsTrue (begins_symbol w)
begins [] h = h
begins (b ∷ []) h = h
begins (b ∷ c ∷ w) h = h

pub symbol_is_name : (w : List ℕ) → IsTrue (is_symbol w) → IsName w
symbol_is_name w h =
    let front : IsTrue (log.begins_symbol w && nat_le (length w) 256) = and_front (log.begins_symbol w && nat_le (length w) 256) (list_all is_constituent w) h in
    record {
      capitals = capitals w (and_back (log.begins_symbol w && nat_le (length w) 256) (list_all is_constituent w) h);
      front = begins w (and_front (log.begins_symbol w) (nat_le (length w) 256) front);
      short = leb-true (length w) 256 (and_back (log.begins_symbol w) (nat_le (length w) 256) front);
    }
