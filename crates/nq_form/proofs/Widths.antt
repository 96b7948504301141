-- Each form of a text takes at least one byte of it.
use Rattle.std.proofs.Common.{◌≡◌, ℕ, suc, ◌+◌, ◌<◌, ◌≤◌, List, [], ◌∷◌, ◌++◌, length, refl, ap, sym, subst, arith}
use Rattle.std.proofs.lemmas.Grind.{common_steps}
use Rattle.nq_form.specs.Form.{Form, Forms, text, quoted, listed, end, dotted, next, push, append}
use Rattle.nq_form.specs.Token.{Token, name, number}
use Rattle.nq_form.specs.Grammar.{Items, none, blank, token, string, quote, nested, tailed}
use Rattle.nq_form.specs.Widths.{count, IsNarrow, AllNarrow, ListsAreNarrow}
use Rattle.nq_form.proofs.Giving.{IsProper, items-proper}
use Rattle.nq_form.proofs.Naming.{named}

count-push : (fs : Forms) (f : Form) → IsProper fs → count (push fs f) ≡ suc (count fs)
count-push end f p = refl
count-push (dotted g) f p = absurd p
count-push (next g fs) f p = ap suc (count-push fs f p)

count-tail : (fs : Forms) (f : Form) → IsProper fs → count (append fs (dotted f)) ≡ suc (count fs)
count-tail end f p = refl
count-tail (dotted g) f p = absurd p
count-tail (next g fs) f p = ap suc (count-tail fs f p)

narrow-push : (n : ℕ) (fs : Forms) (f : Form) → AllNarrow n fs → IsNarrow n f → AllNarrow n (push fs f)
narrow-push n end f h k = (k, tt)
narrow-push n (dotted g) f h k = h
narrow-push n (next g fs) f h k = (h.0, narrow-push n fs f h.1 k)

narrow-tail : (n : ℕ) (fs : Forms) (f : Form) → AllNarrow n fs → IsNarrow n f → AllNarrow n (append fs (dotted f))
narrow-tail n end f h k = k
narrow-tail n (dotted g) f h k = h
narrow-tail n (next g fs) f h k = (h.0, narrow-tail n fs f h.1 k)

token-narrow : (n : ℕ) (w : List ℕ) (f : Form) → Token w f → IsNarrow n f
token-narrow n w f (name s) = tt
token-narrow n w f (number i) = tt

token-some : (w : List ℕ) (f : Form) → Token w f → 0 < length w
token-some w f i = let r = named w f i in subst (λ (z : List ℕ). 0 < length z) (sym r.bytes) (omega arith)

bound : (n levels : ℕ) (t : List ℕ) (fs : Forms) → Items levels t fs → length t ≤ n → (count fs ≤ length t) × AllNarrow n fs
bound n levels t fs none room = (omega arith, tt)
bound n levels t fs (blank {t = u} v p b) room =
    let longer : length (u ++ v) ≡ length u + length v = grind (arith, common_steps) in
    let h = bound n levels u fs p (omega (arith, longer, room)) in
    (omega (arith, h.0, longer), h.1)
bound n levels t fs (token {t = u} {fs = gs} {f = f} w p c i) room =
    let longer : length (u ++ w) ≡ length u + length w = grind (arith, common_steps) in
    let h = bound n levels u gs p (omega (arith, longer, room)) in
    let some = token-some w f i in
    let one = count-push gs f (items-proper levels u gs p) in
    (omega (arith, h.0, longer, some, one), narrow-push n gs f h.1 (token-narrow n w f i))
bound n levels t fs (string {t = u} {s = s} {bytes = bytes} {fs = gs} p q) room =
    let longer : length (u ++ 34 ∷ s ++ 34 ∷ []) ≡ length u + length s + 2 = grind (arith, common_steps) in
    let h = bound n levels u gs p (omega (arith, longer, room)) in
    let one = count-push gs (text bytes) (items-proper levels u gs p) in
    (omega (arith, h.0, longer, one), narrow-push n gs (text bytes) h.1 tt)
bound n levels t fs (quote {d = d} {t = u} {u = v} {fs = gs} {f = f} p q) room =
    let longer : length (u ++ 39 ∷ v) ≡ length u + length v + 1 = grind (arith, common_steps) in
    let h = bound n (suc d) u gs p (omega (arith, longer, room)) in
    let k = bound n d v (next f end) q (omega (arith, longer, room)) in
    let one = count-push gs (quoted f) (items-proper (suc d) u gs p) in
    (omega (arith, h.0, longer, one), narrow-push n gs (quoted f) h.1 k.1.0)
bound n levels t fs (nested {d = d} {t = u} {u = v} {fs = gs} {gs = hs} p q) room =
    let longer : length (u ++ 40 ∷ v ++ 41 ∷ []) ≡ length u + length v + 2 = grind (arith, common_steps) in
    let h = bound n (suc d) u gs p (omega (arith, longer, room)) in
    let k = bound n d v hs q (omega (arith, longer, room)) in
    let one = count-push gs (listed hs) (items-proper (suc d) u gs p) in
    let wide : count hs ≤ n = omega (arith, k.0, longer, room) in
    (omega (arith, h.0, longer, one), narrow-push n gs (listed hs) h.1 (wide, k.1))
bound n levels t fs (tailed {d = d} {t = u} {u = v} {v = x} {fs = gs} {gs = hs} {f = f} {g = g} p q r c a) room =
    let longer : length (u ++ 40 ∷ v ++ 46 ∷ x ++ 41 ∷ []) ≡ length u + length v + length x + 3 = grind (arith, common_steps) in
    let h = bound n (suc d) u gs p (omega (arith, longer, room)) in
    let k = bound n d v (next g hs) q (omega (arith, longer, room)) in
    let l = bound n d x (next f end) r (omega (arith, longer, room)) in
    let form : Form = listed (append (next g hs) (dotted f)) in
    let one = count-push gs form (items-proper (suc d) u gs p) in
    let more = count-tail (next g hs) f (items-proper d v (next g hs) q) in
    let wide : count (append (next g hs) (dotted f)) ≤ n = omega (arith, k.0, longer, room, more) in
    (omega (arith, h.0, longer, one), narrow-push n gs form h.1 (wide, narrow-tail n (next g hs) f k.1 l.1.0))

pub lists_are_narrow : ListsAreNarrow
lists_are_narrow levels t fs p = bound (length t) levels t fs p (omega arith)
