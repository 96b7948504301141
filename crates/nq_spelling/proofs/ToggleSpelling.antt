-- A log can spell the name that DISABLE or ENABLE makes up.
use Rattle.std.proofs.Common.{◌≡◌, ℕ, zero, suc, ◌+◌, ◌<◌, ◌≤◌, Bool, true, false, List, [], ◌∷◌, ◌++◌, length, refl, sym, subst, ap₂, ◌∙◌, arith, append_assoc}
use Rattle.std.specs.Prelude.{◌&&◌, ◌||◌, not, nat_le, nat_eq, codes}
use Rattle.std.specs.List.{list_all}
use Rattle.std.specs.Fmt.{decimal}
use Rattle.std.specs.Str.Parse.{AllDigits}
use Rattle.std.specs.Int.{IsInRange}
use Rattle.std.proofs.lemmas.List.{length-append}
use Rattle.std.proofs.lemmas.List.Folds.{list_all-append}
use Rattle.std.proofs.lemmas.Fmt.{decimal_is_IsNumeral, length-decimal-le}
use Rattle.std.proofs.lemmas.Str.Parse.{digit_at}
use Rattle.nq_logic.specs.Terms.{Name}
use Rattle.nq_logic.specs.Histories.{History}
use Rattle.nq_logic.specs.Ground.{all_events}
use Rattle.nq_logic.specs.Names.{events_names, is_in_use}
use Rattle.nq_logtext.specs.Symbols.{begins_symbol, is_between, is_constituent, is_digit, is_sign}
use Rattle.nq_events.specs.MadeNames.{made_name, numbered_from, unused_from}
use Rattle.nq_spelling.specs.SpelledEvents.{HasFewNames}
use Rattle.nq_spelling.proofs.NameCounts.{names_few}
use Rattle.nq_spelling.proofs.PartSpelling.{Symbolic}
use Rattle.nq_spelling.proofs.Tests.{at_most, both_true}

-- ---- what may stand behind a symbol

-- A dash and these may stand behind a symbol of at most 240 bytes.
record IsTail (s : Name) : Type 0 where
  short : length s ≤ 15
  plain : list_all is_constituent s ≡ true

-- what does not begin a numeral does not begin one with a dash behind it
no_sign_with : (a b : Bool) → a ≡ true → a && not (b && false) ≡ true
no_sign_with true true e = refl
no_sign_with true false e = refl
no_sign_with false b e = absurd (cc)

begins_more : (w s : Name) → begins_symbol w ≡ true → begins_symbol (w ++ 45 ∷ s) ≡ true
begins_more [] s e = absurd (cc)
begins_more (b ∷ []) s e = no_sign_with (not (is_digit b || nat_eq b 46 || nat_eq b 58)) (is_sign b) e
begins_more (b ∷ c ∷ bs) s e = e

all_of : (a b c : Bool) → a ≡ true → b ≡ true → c ≡ true → a && b && c ≡ true
all_of a b c e f g = ap₂ (λ x y. x && y) (ap₂ (λ x y. x && y) e f) g

symbol_with : (w s : Name) → Symbolic w → length w ≤ 240 → IsTail s → Symbolic (w ++ 45 ∷ s)
symbol_with w s symbol few tail =
    let all = w ++ 45 ∷ s in
    let parts = both_true (begins_symbol w && nat_le (length w) 256) (list_all is_constituent w) symbol in
    let long : length (w ++ 45 ∷ s) ≤ 256 = omega (arith, length-append w (45 ∷ s), tail.short, few) in
    let plain : list_all is_constituent (w ++ 45 ∷ s) ≡ true =
    list_all-append is_constituent w (45 ∷ s) ∙ ap₂ (λ a b. a && b) parts.1 tail.plain in
    all_of (begins_symbol all) (nat_le (length all) 256) (list_all is_constituent all)
    (begins_more w s (both_true (begins_symbol w) (nat_le (length w) 256) parts.0).0)
    (at_most (length all) 256 long) plain

-- ---- numerals

-- a digit passes the fourth of the tests for constituents
fourth : (a b c d e f g h i j : Bool) → d ≡ true → a || b || c || d || e || f || g || h || i || j ≡ true
fourth true b c d e f g h i j is = refl
fourth false true c d e f g h i j is = refl
fourth false false true d e f g h i j is = refl
fourth false false false true e f g h i j is = refl
fourth false false false false e f g h i j is = absurd (cc)

digit_plain : (c : ℕ) → IsInRange 48 57 c → is_constituent c ≡ true
digit_plain c h =
    let low : nat_le 45 c ≡ true = at_most 45 c (omega (arith, h.0)) in
    let high : nat_le c 58 ≡ true = at_most c 58 (omega (arith, h.1)) in
    fourth (is_between 64 91 c) (is_between 93 95 c) (is_between 60 63 c) (is_between 45 58 c) (is_between 36 38 c) (is_between 42 43 c) (nat_eq c 33) (nat_eq c 123) (nat_eq c 125) (nat_eq c 126) (ap₂ (λ a b. a && b) low high)

digits_plain : (ds : List ℕ) → AllDigits 10 ds → list_all is_constituent ds ≡ true
digits_plain [] h = refl
digits_plain (c ∷ cs) h = ap₂ (λ a b. a && b) (digit_plain c (digit_at (c ∷ cs) 0 h (omega arith))) (digits_plain cs h.1)

-- a tail of at most 9 bytes with a numeral of at most 6 digits behind it
numbered_tail : (s : Name) (k : ℕ) → length s ≤ 9 → list_all is_constituent s ≡ true → k < 1000000 → IsTail (s ++ decimal k)
numbered_tail s k short plain few = record {
  short = omega (arith, length-append s (decimal k), length-decimal-le 6 k (omega arith) few (omega arith));
  plain = list_all-append is_constituent s (decimal k) ∙ ap₂ (λ a b. a && b) plain (digits_plain (decimal k) (decimal_is_IsNumeral k (omega arith)).0.1);
}

-- ---- made-up names

either : (b : Bool) (x y : Name) → Symbolic x → Symbolic y → Symbolic (elim b [ true ↦ x | false ↦ y ])
either true x y h k = h
either false x y h k = k

module _ (h : History) (old s : Name) (symbol : Symbolic old) (few : length old ≤ 240) (short : length s ≤ 9) (plain : list_all is_constituent s ≡ true) where
  numeral_spelled : (k : ℕ) → k < 1000000 → Symbolic ((old ++ 45 ∷ s) ++ decimal k)
  numeral_spelled k lt = subst Symbolic (sym (append_assoc old (45 ∷ s) (decimal k))) (symbol_with old (s ++ decimal k) symbol few (numbered_tail s k short plain lt))

  numbered_spelled : (k more : ℕ) → k + more < 1000000 → Symbolic (numbered_from h (old ++ 45 ∷ s) k more)
  numbered_spelled k zero lt = numeral_spelled k (omega arith)
  numbered_spelled k (suc more) lt =
      either (is_in_use ((old ++ 45 ∷ s) ++ decimal k) h) (numbered_from h (old ++ 45 ∷ s) (suc k) more) ((old ++ 45 ∷ s) ++ decimal k)
      (numbered_spelled (suc k) more (omega arith)) (numeral_spelled k (omega arith))

  unused_spelled : HasFewNames h → Symbolic (unused_from h (old ++ 45 ∷ s))
  unused_spelled names =
      let count = length (events_names (all_events h)) in
      let first : 1 + length (events_names (all_events h)) < 1000000 = omega (arith, names_few h names) in
      either (is_in_use (old ++ 45 ∷ s) h) (numbered_from h (old ++ 45 ∷ s) 1 count) (old ++ 45 ∷ s)
      (numbered_spelled 1 count first) (symbol_with old s symbol few (record { short = omega arith; plain = plain }))

-- The made-up name is a symbol in upper case.
pub made_name_spelled : (h : History) (disabled : Bool) (old : Name) → HasFewNames h → Symbolic old → length old ≤ 240 → Symbolic (made_name h disabled old)
made_name_spelled h true old names symbol few = unused_spelled h old (codes "OFF") symbol few (omega arith) refl names
made_name_spelled h false old names symbol few = unused_spelled h old (codes "ON") symbol few (omega arith) refl names
