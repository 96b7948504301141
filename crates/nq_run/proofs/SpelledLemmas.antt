-- Forms of a text have symbols in upper case for names.
use Rattle.std.proofs.Common.{◌≡◌, ◌<◌, ◌≤◌, ℕ, zero, suc, Bool, true, false, List, [], ◌∷◌, length, refl, ap, sym, subst, inl, inr, arith, leb-true, le-leb, eqb-true}
use Rattle.std.proofs.lemmas.List.{length-map}
use Rattle.std.specs.Prelude.{◌⊎◌, ◌&&◌, ◌||◌, not, IsTrue, nat_eq, nat_le, map, if◌then◌else◌}
use Rattle.std.specs.List.{list_all}
use Rattle.nq_form.specs.Form.{Form, Forms, text, quoted, listed, end, dotted, next, push, append}
use Rattle.nq_form.specs.Bytes as form
use Rattle.nq_form.specs.Bytes.{is_between, upper}
use Rattle.nq_form.specs.Token as token_of
use Rattle.nq_form.specs.Token.{IsSymbol, Token, name, number}
use Rattle.nq_form.specs.Grammar.{Items, none, blank, token, string, quote, nested, tailed}
use Rattle.nq_form.proofs.Spelling.{and_front, and_back}
use Rattle.nq_logtext.specs.Symbols as log
use Rattle.nq_spelling.specs.Spelled.{AreSpelled, IsSpelled}

-- ---- what holds of each byte below a bound, by a table

abbrev all_below : (ℕ → Bool) → ℕ → Bool
all_below p zero = true
all_below p (suc n) = p n && all_below p n

last_or_before : (b n : ℕ) → b < suc n → (b ≡ n) ⊎ (b < n)
last_or_before zero zero lt = inl refl
last_or_before zero (suc n) lt = inr (omega arith)
last_or_before (suc b) zero lt = absurd (omega (arith, lt))
last_or_before (suc b) (suc n) lt = elim (last_or_before b n (omega (arith, lt))) as (λ o. (suc b ≡ suc n) ⊎ (suc b < suc n)) [ inl e ↦ inl (ap suc e) | inr l ↦ inr (omega (arith, l)) ]

at_byte : (p : ℕ → Bool) (n : ℕ) → IsTrue (all_below p n) → (b : ℕ) → b < n → IsTrue (p b)
at_byte p zero all b lt = absurd (omega (arith, lt))
at_byte p (suc n) all b lt =
    elim (last_or_before b n lt) as (λ o. IsTrue (p b)) [
      | inl same ↦ subst (λ (k : ℕ). IsTrue (p k)) (sym same) (and_front (p n) (all_below p n) all)
      | inr lower ↦ at_byte p n (and_back (p n) (all_below p n) all) b lower
    ]

where_so : (c x : Bool) → IsTrue c → IsTrue (if c then x else true) → IsTrue x
where_so true x so holds = holds
where_so false x so holds = absurd cc

both : (a b : Bool) → IsTrue a → IsTrue b → IsTrue (a && b)
both true b h g = g
both false b h g = h

-- ---- a constituent in upper case is one of a log's names

between_low : (low high b : ℕ) → high < 128 → IsTrue (is_between low high b) → b < 128
between_low low high b small h = let least = leb-true b high (and_back (nat_le low b) (nat_le b high) h) in omega (arith, least, small)

either_low : (a c : Bool) (b : ℕ) → (IsTrue a → b < 128) → (IsTrue c → b < 128) → IsTrue (a || c) → b < 128
either_low true c b f g h = f refl
either_low false c b f g h = g h

constituent_low : (b : ℕ) → IsTrue (form.is_constituent b) → b < 128
constituent_low b h =
    let first = λ (g : IsTrue (nat_eq b 33)). let same : b ≡ 33 = eqb-true b 33 g in let low : b < 128 = omega (arith, same) in low in
    let second = either_low (nat_eq b 33) (is_between 36 38 b) b first (between_low 36 38 b (omega arith)) in
    let third = either_low (nat_eq b 33 || is_between 36 38 b) (is_between 42 43 b) b second (between_low 42 43 b (omega arith)) in
    let fourth = either_low (nat_eq b 33 || is_between 36 38 b || is_between 42 43 b) (is_between 45 58 b) b third (between_low 45 58 b (omega arith)) in
    let fifth = either_low (nat_eq b 33 || is_between 36 38 b || is_between 42 43 b || is_between 45 58 b) (is_between 60 91 b) b fourth (between_low 60 91 b (omega arith)) in
    let sixth = either_low (nat_eq b 33 || is_between 36 38 b || is_between 42 43 b || is_between 45 58 b || is_between 60 91 b) (is_between 93 95 b) b fifth (between_low 93 95 b (omega arith)) in
    let seventh = either_low (nat_eq b 33 || is_between 36 38 b || is_between 42 43 b || is_between 45 58 b || is_between 60 91 b || is_between 93 95 b) (is_between 97 123 b) b sixth
    (between_low 97 123 b (omega arith)) in
    either_low (nat_eq b 33 || is_between 36 38 b || is_between 42 43 b || is_between 45 58 b || is_between 60 91 b || is_between 93 95 b || is_between 97 123 b) (is_between 125 126 b) b seventh
    (between_low 125 126 b (omega arith)) h

abbrev constituent_kept : ℕ → Bool
constituent_kept b = if form.is_constituent b then log.is_constituent (upper b) else true

upper_constituent : (b : ℕ) → IsTrue (form.is_constituent b) → IsTrue (log.is_constituent (upper b))
upper_constituent b h = where_so (form.is_constituent b) (log.is_constituent (upper b)) h (at_byte constituent_kept 128 refl b (constituent_low b h))

upper_constituents : (w : List ℕ) → IsTrue (list_all form.is_constituent w) → IsTrue (list_all log.is_constituent (map upper w))
upper_constituents [] h = refl
upper_constituents (b ∷ w) h =
    both (log.is_constituent (upper b)) (list_all log.is_constituent (map upper w))
    (upper_constituent b (and_front (form.is_constituent b) (list_all form.is_constituent w) h))
    (upper_constituents w (and_back (form.is_constituent b) (list_all form.is_constituent w) h))

-- ---- so is the front

-- a digit, a dot or a colon
abbrev bars_front : ℕ → Bool
bars_front b = log.is_digit b || nat_eq b 46 || nat_eq b 58

abbrev front_kept : ℕ → Bool
front_kept b = if not (token_of.bars_front b) then not (bars_front (upper b)) else true

abbrev sign_kept : ℕ → Bool
sign_kept b = if not (form.is_sign b) then not (log.is_sign (upper b)) else true

abbrev digit_kept : ℕ → Bool
digit_kept b = if not (form.is_digit b) then not (log.is_digit (upper b)) else true

upper_front : (b : ℕ) → b < 128 → IsTrue (not (token_of.bars_front b)) → IsTrue (not (bars_front (upper b)))
upper_front b low h = where_so (not (token_of.bars_front b)) (not (bars_front (upper b))) h (at_byte front_kept 128 refl b low)

upper_sign : (b : ℕ) → b < 128 → IsTrue (not (form.is_sign b)) → IsTrue (not (log.is_sign (upper b)))
upper_sign b low h = where_so (not (form.is_sign b)) (not (log.is_sign (upper b))) h (at_byte sign_kept 128 refl b low)

upper_digit : (b : ℕ) → b < 128 → IsTrue (not (form.is_digit b)) → IsTrue (not (log.is_digit (upper b)))
upper_digit b low h = where_so (not (form.is_digit b)) (not (log.is_digit (upper b))) h (at_byte digit_kept 128 refl b low)

not_first : (a b : Bool) → IsTrue (not a) → IsTrue (not (a && b))
not_first true b h = absurd cc
not_first false b h = refl

not_second : (a b : Bool) → IsTrue (not b) → IsTrue (not (a && b))
not_second true b h = h
not_second false b h = refl

never_both : (a b c d : Bool) → (IsTrue (not a) → IsTrue (not c)) → (IsTrue (not b) → IsTrue (not d)) → IsTrue (not (a && b)) → IsTrue (not (c && d))
never_both true true c d f g h = absurd cc
never_both true false c d f g h = not_second c d (g refl)
never_both false b c d f g h = not_first c d (f refl)

upper_begins : (w : List ℕ) → IsTrue (list_all form.is_constituent w) → IsTrue (token_of.begins_symbol w) → IsTrue (log.begins_symbol (map upper w))
upper_begins [] all h = h
upper_begins (b ∷ []) all h = upper_front b (constituent_low b (and_front (form.is_constituent b) true all)) h
upper_begins (b ∷ c ∷ w) all h =
    let rest = and_back (form.is_constituent b) (form.is_constituent c && list_all form.is_constituent w) all in
    let first : b < 128 = constituent_low b (and_front (form.is_constituent b) (form.is_constituent c && list_all form.is_constituent w) all) in
    let second : c < 128 = constituent_low c (and_front (form.is_constituent c) (list_all form.is_constituent w) rest) in
    both (not (bars_front (upper b))) (not (log.is_sign (upper b) && log.is_digit (upper c)))
    (upper_front b first (and_front (not (token_of.bars_front b)) (not (form.is_sign b && form.is_digit c)) h))
    (never_both (form.is_sign b) (form.is_digit c) (log.is_sign (upper b)) (log.is_digit (upper c)) (upper_sign b first) (upper_digit c second)
    (and_back (not (token_of.bars_front b)) (not (form.is_sign b && form.is_digit c)) h))

-- a symbol in upper case can be spelled in a log
upper_symbol : (w : List ℕ) → IsSymbol w → IsTrue (log.is_symbol (map upper w))
upper_symbol w s =
    let small : length (map upper w) ≤ 256 = subst (λ (n : ℕ). n ≤ 256) (sym (length-map w upper)) s.short in
    both (log.begins_symbol (map upper w) && nat_le (length (map upper w)) 256) (list_all log.is_constituent (map upper w))
    (both (log.begins_symbol (map upper w)) (nat_le (length (map upper w)) 256) (upper_begins w s.constituents s.front) (le-leb (length (map upper w)) 256 small))
    (upper_constituents w s.constituents)

-- ---- the forms of a text

token_spelled : (w : List ℕ) (f : Form) → Token w f → IsSpelled f
token_spelled w f (name {w = v} s) = upper_symbol v s
token_spelled w f (number i) = tt

push_spelled : (fs : Forms) (f : Form) → AreSpelled fs → IsSpelled f → AreSpelled (push fs f)
push_spelled end f h k = (k, tt)
push_spelled (dotted g) f h k = h
push_spelled (next g fs) f h k = (h.0, push_spelled fs f h.1 k)

append_spelled : (fs gs : Forms) → AreSpelled fs → AreSpelled gs → AreSpelled (append fs gs)
append_spelled end gs h k = k
append_spelled (dotted f) gs h k = h
append_spelled (next f fs) gs h k = (h.0, append_spelled fs gs h.1 k)

-- each symbol of a text's forms is a symbol in upper case
pub items_spelled : (levels : ℕ) (t : List ℕ) (fs : Forms) → Items levels t fs → AreSpelled fs
items_spelled levels t fs none = tt
items_spelled levels t fs (blank {t = u} v p b) = items_spelled levels u fs p
items_spelled levels t fs (token {t = u} {fs = gs} {f = f} w p c i) = push_spelled gs f (items_spelled levels u gs p) (token_spelled w f i)
items_spelled levels t fs (string {t = u} {s = s} {bytes = bytes} {fs = gs} p q) = push_spelled gs (text bytes) (items_spelled levels u gs p) tt
items_spelled levels t fs (quote {d = d} {t = u} {u = v} {fs = gs} {f = f} p q) =
    push_spelled gs (quoted f) (items_spelled (suc d) u gs p) (items_spelled d v (next f end) q).0
items_spelled levels t fs (nested {d = d} {t = u} {u = v} {fs = gs} {gs = inner} p q) =
    push_spelled gs (listed inner) (items_spelled (suc d) u gs p) (items_spelled d v inner q)
items_spelled levels t fs (tailed {d = d} {t = u} {u = v} {v = w} {fs = gs} {gs = inner} {f = f} {g = g} p q r c b) =
    push_spelled gs (listed (append (next g inner) (dotted f))) (items_spelled (suc d) u gs p)
    (append_spelled (next g inner) (dotted f) (items_spelled d v (next g inner) q) (items_spelled d w (next f end) r).0)
