-- The forms of two texts, one behind the other, by the whole grammar.
use Rattle.std.proofs.Common.{◌≡◌, ℕ, suc, ◌+◌, ◌<◌, ◌≤◌, List, [], ◌∷◌, ◌++◌, length, refl, ap, sym, subst, append_assoc, append-nil, inl, inr, arith}
use Rattle.std.specs.Prelude.{◌⊎◌, Option, None, Some, IsTrue}
use Rattle.std.specs.List.{list_all}
use Rattle.std.proofs.lemmas.Grind.{common_steps}
use Rattle.nq_form.specs.Form.{Form, Forms, text, quoted, listed, end, dotted, next, push, append}
use Rattle.nq_form.specs.Bytes.{is_constituent, is_closed, begins_apart}
use Rattle.nq_form.specs.Token.{Token}
use Rattle.nq_form.specs.Grammar.{Items, none, blank, token, string, quote, nested, tailed, Spot, in_list, first_place, Open, whole, list, dot, mark, Seam, holds, Stops, unknown, too_deep, no_tail, two_tails, Judged, bad, too_wide, misplaced, Ending, fault, shifted, Reads, to_end, unclosed, unfinished, unquoted, unopened, unmarked, stopped, judged, sharp, past}
use Rattle.nq_form.proofs.Spelling.{not_both, and_front, apart-front, closed-seam, closed-append}
use Rattle.nq_form.proofs.Forms.{append-end, append-push}
use Rattle.nq_form.proofs.Naming.{named, wide_run}

abbrev Apart : List ℕ → List ℕ → Type 0
Apart t u = IsTrue (is_closed t) ⊎ IsTrue (begins_apart u)

run-front : (w : List ℕ) (b : ℕ) (r : List ℕ) → w ≡ b ∷ r → IsTrue (list_all is_constituent (b ∷ r)) → IsTrue (begins_apart w) → ⊥
run-front w b r e k h = not_both (is_constituent b) (and_front _ _ k) (subst (λ (z : List ℕ). IsTrue (begins_apart z)) e h)

token-front : (w : List ℕ) (f : Form) → Token w f → IsTrue (begins_apart w) → ⊥
token-front w f i h = let r = named w f i in run-front w r.first r.rest r.bytes r.constituents h

judged-front : (s : Spot) (d : ℕ) (w : List ℕ) (code : ℕ) → Judged s d w code → IsTrue (begins_apart w) → ⊥
judged-front s d [] code (bad b) h = omega (arith, b.some)
judged-front s d (b ∷ w) code (bad i) h = not_both (is_constituent b) (and_front _ _ i.constituents) h
judged-front s d w code (too_wide i) h = let r = wide_run w i in run-front w r.first r.rest r.bytes r.constituents h
judged-front s d w code (misplaced m) h = cc
judged-front s d w code (two_tails x p a c i) h = cc

pub joins : (levels : ℕ) (t u : List ℕ) (fs gs : Forms) → Items levels t fs → Items levels u gs → Apart t u → Items levels (t ++ u) (append fs gs)
joins levels t u fs gs p none k =
    subst (λ (z : List ℕ). Items levels z (append fs end)) (sym (append-nil t)) (subst (λ (z : Forms). Items levels t z) (sym (append-end fs)) p)
joins levels t u fs gs p (blank {t = v} {fs = hs} b q h) k =
    subst (λ (z : List ℕ). Items levels z (append fs hs)) (append_assoc t v b) (blank b (joins levels t v fs hs p q (apart-front t v b k)) h)
joins levels t u fs gs p (token {t = v} {fs = hs} {f = f} w q c i) k =
    subst (λ (z : List ℕ). Items levels z (append fs (push hs f))) (append_assoc t v w)
    (subst (λ (z : Forms). Items levels ((t ++ v) ++ w) z) (sym (append-push fs hs f))
    (token w (joins levels t v fs hs p q (apart-front t v w k)) (closed-seam t v w c (token-front w f i) k) i))
joins levels t u fs gs p (string {t = v} {s = s} {bytes = bytes} {fs = hs} q i) k =
    let seam : Apart t v = apart-front t v (34 ∷ s) (apart-front t (v ++ 34 ∷ s) (34 ∷ []) k) in
    let joined : (t ++ v) ++ 34 ∷ s ++ 34 ∷ [] ≡ t ++ (v ++ 34 ∷ s ++ 34 ∷ []) = grind (arith, common_steps) in
    subst (λ (z : List ℕ). Items levels z (append fs (push hs (text bytes)))) joined
    (subst (λ (z : Forms). Items levels ((t ++ v) ++ 34 ∷ s ++ 34 ∷ []) z) (sym (append-push fs hs (text bytes))) (string (joins levels t v fs hs p q seam) i))
joins levels t u fs gs p (quote {d = d} {t = v} {u = x} {fs = hs} {f = f} q r) k =
    subst (λ (z : List ℕ). Items (suc d) z (append fs (push hs (quoted f)))) (append_assoc t v (39 ∷ x))
    (subst (λ (z : Forms). Items (suc d) ((t ++ v) ++ 39 ∷ x) z) (sym (append-push fs hs (quoted f))) (quote (joins (suc d) t v fs hs p q (apart-front t v (39 ∷ x) k)) r))
joins levels t u fs gs p (nested {d = d} {t = v} {u = x} {fs = hs} {gs = is} q r) k =
    let seam : Apart t v = apart-front t v (40 ∷ x) (apart-front t (v ++ 40 ∷ x) (41 ∷ []) k) in
    let joined : (t ++ v) ++ 40 ∷ x ++ 41 ∷ [] ≡ t ++ (v ++ 40 ∷ x ++ 41 ∷ []) = grind (arith, common_steps) in
    subst (λ (z : List ℕ). Items (suc d) z (append fs (push hs (listed is)))) joined
    (subst (λ (z : Forms). Items (suc d) ((t ++ v) ++ 40 ∷ x ++ 41 ∷ []) z) (sym (append-push fs hs (listed is))) (nested (joins (suc d) t v fs hs p q seam) r))
joins levels t u fs gs p (tailed {d = d} {t = v} {u = x} {v = y} {fs = hs} {gs = is} {f = f} {g = g} q r l c a) k =
    let seam : Apart t v = apart-front t v (40 ∷ x) (apart-front t (v ++ 40 ∷ x) (46 ∷ y) (apart-front t (v ++ 40 ∷ x ++ 46 ∷ y) (41 ∷ []) k)) in
    let joined : (t ++ v) ++ 40 ∷ x ++ 46 ∷ y ++ 41 ∷ [] ≡ t ++ (v ++ 40 ∷ x ++ 46 ∷ y ++ 41 ∷ []) = grind (arith, common_steps) in
    subst (λ (z : List ℕ). Items (suc d) z (append fs (push hs (listed (append (next g is) (dotted f)))))) joined
    (subst (λ (z : Forms). Items (suc d) ((t ++ v) ++ 40 ∷ x ++ 46 ∷ y ++ 41 ∷ []) z) (sym (append-push fs hs (listed (append (next g is) (dotted f)))))
    (tailed (joins (suc d) t v fs hs p q seam) r l c a))

abbrev pub moved : ℕ → Option ℕ → Option ℕ
moved n None = None
moved n (Some place) = Some (n + place)

place-moved : (o : Option ℕ) (t v : List ℕ) → Some (first_place (moved (length t) o) (length (t ++ v))) ≡ moved (length t) (Some (first_place o (length v)))
place-moved None t v = let count : length (t ++ v) ≡ length t + length v = grind (arith, common_steps) in ap Some count
place-moved (Some place) t v = refl

pub open-join : (s : Spot) (o : Option ℕ) (d n levels : ℕ) (t u : List ℕ) (fs gs : Forms) → Items levels t fs → Open s o d n u gs → d + n ≡ levels → Apart t u → Open s (moved (length t) o) d n (t ++ u) (append fs gs)
open-join s o d n levels t u fs gs p (whole q) e k =
    let same : levels ≡ d = omega arith in whole (joins d t u fs gs (subst (λ (z : ℕ). Items z t fs) same p) q k)
open-join s o d n levels t u fs gs p (list {s = r} {o = place} {n = m} {t = v} {u = x} {gs = hs} q h i) e k =
    let outer : Open r (moved (length t) place) (suc d) m (t ++ v) (append fs gs) = open-join r place (suc d) m levels t v fs gs p q (omega arith) (apart-front t v (40 ∷ x) k) in
    subst (λ (z : Option ℕ). Open s z d (suc m) (t ++ (v ++ 40 ∷ x)) (append fs gs)) (place-moved place t v)
    (subst (λ (z : List ℕ). Open s (Some (first_place (moved (length t) place) (length (t ++ v)))) d (suc m) z (append fs gs)) (append_assoc t v (40 ∷ x)) (list outer h i))
open-join s o d n levels t u fs gs p (dot {t = v} {u = x} q c i a w) e k =
    let outer : Open in_list (moved (length t) o) d n (t ++ v) (append fs gs) = open-join in_list o d n levels t v fs gs p q e (apart-front t v (46 ∷ x) k) in
    subst (λ (z : List ℕ). Open s (moved (length t) o) d n z (append fs gs)) (append_assoc t v (46 ∷ x)) (dot outer (closed-seam t v (46 ∷ x) c (λ h. cc) k) i a w)
open-join s o d n levels t u fs gs p (mark {s = r} {n = m} {t = v} {u = x} q h i) e k =
    let outer : Open r (moved (length t) o) (suc d) m (t ++ v) (append fs gs) = open-join r o (suc d) m levels t v fs gs p q (omega arith) (apart-front t v (39 ∷ x) k) in
    subst (λ (z : List ℕ). Open s (moved (length t) o) d (suc m) z (append fs gs)) (append_assoc t v (39 ∷ x)) (mark outer h i)

seam_of : {A B C : Type 0} → A ⊎ (B × C) → A ⊎ B
seam_of (inl h) = inl h
seam_of (inr h) = inr h.0

stops-some : (s : Spot) (d : ℕ) (v : List ℕ) (code : ℕ) → Stops s d v code → 0 < length v
stops-some s d v code (unknown b h) = omega arith
stops-some s d v code (too_deep b e h) = omega arith
stops-some s d v code (no_tail p a) = omega arith
stops-some s d v code (two_tails b p a h) = omega arith

-- the seam behind the joined texts
seam-join : (t v x : List ℕ) → Seam v x → 0 < length (v ++ x) → Apart t (v ++ x) → Seam (t ++ v) x
seam-join t (b ∷ v) x (inl c) h k = inl (closed-append t v b c)
seam-join t [] x (inl c) h (inl k) = inl (subst (λ (z : List ℕ). IsTrue (is_closed z)) (sym (append-nil t)) k)
seam-join t [] x (inl c) h (inr k) = inr (k, h)
seam-join t v x (inr a) h k = inr a

reads-as : (levels limit : ℕ) (fs : Forms) (t u : List ℕ) (e f : Ending) → t ≡ u → e ≡ f → Reads levels limit t fs e → Reads levels limit u fs f
reads-as levels limit fs t u e f p q r = subst (λ (z : List ℕ). Reads levels limit z fs f) p (subst (λ (z : Ending). Reads levels limit t fs z) q r)

-- What the rest of a text reads as, the whole text does, behind the forms before it.
pub reads-join : (levels limit room : ℕ) (t u : List ℕ) (fs gs : Forms) (e : Ending) → Items levels t fs → Reads levels room u gs e → length t + room ≡ limit
    → IsTrue (is_closed t) ⊎ (IsTrue (begins_apart u) × ((u ≡ []) ⊎ (0 < room))) → Reads levels limit (t ++ u) (append fs gs) (shifted (length t) e)
reads-join levels limit room t u fs gs e p (to_end {t = v} {v = x} q w h) l k =
    let short : length ((t ++ v) ++ x) ≤ limit = grind (arith, common_steps) in
    reads-as levels limit (append fs gs) ((t ++ v) ++ x) _ _ _ (append_assoc t v x) refl (to_end (joins levels t v fs gs p q (apart-front t v x (seam_of k))) w short)
reads-join levels limit room t u fs gs e p (unclosed {s = s} {d = d} {n = n} {place = place} {t = v} {v = x} q m w h) l k =
    let short : length ((t ++ v) ++ x) ≤ limit = grind (arith, common_steps) in
    reads-as levels limit (append fs gs) ((t ++ v) ++ x) _ _ _ (append_assoc t v x) refl (unclosed (open-join s (Some place) d n levels t v fs gs p q m (apart-front t v x (seam_of k))) m w short)
reads-join levels limit room t u fs gs e p (unfinished {s = s} {d = d} {n = n} {t = v} {v = x} q m w h) l k =
    let short : length ((t ++ v) ++ x) ≤ limit = grind (arith, common_steps) in
    let place : length (t ++ v) ≡ length t + length v = grind (arith, common_steps) in
    reads-as levels limit (append fs gs) ((t ++ v) ++ x) _ _ _ (append_assoc t v x) (ap (λ (z : ℕ). fault 1 z) place) (unfinished (open-join s None d n levels t v fs gs p q m (apart-front t v x (seam_of k))) m w short)
reads-join levels limit room t u fs gs e p (unquoted {s = s} {d = d} {n = n} {t = v} {u = x} {v = y} q m i w h) l k =
    let joined : (t ++ v) ++ 39 ∷ x ++ y ≡ t ++ (v ++ 39 ∷ x ++ y) = grind (arith, common_steps) in
    let short : length ((t ++ v) ++ 39 ∷ x ++ y) ≤ limit = grind (arith, common_steps) in
    let place : length (t ++ v) ≡ length t + length v = grind (arith, common_steps) in
    let seam : Apart t v = apart-front t v (39 ∷ x) (apart-front t (v ++ 39 ∷ x) y (seam_of k)) in
    reads-as levels limit (append fs gs) ((t ++ v) ++ 39 ∷ x ++ y) _ _ _ joined (ap (λ (z : ℕ). fault 2 z) place)
    (unquoted (open-join s None (suc d) n levels t v fs gs p q (omega arith) seam) m i w short)
reads-join levels limit room t u fs gs e p (unopened {s = s} {d = d} {n = n} {t = v} more q m h) l k =
    let short : length (t ++ v) < limit = grind (arith, common_steps) in
    let place : length (t ++ v) ≡ length t + length v = grind (arith, common_steps) in
    reads-as levels limit (append fs gs) ((t ++ v) ++ 41 ∷ more) _ _ _ (append_assoc t v (41 ∷ more)) (ap (λ (z : ℕ). fault 1 z) place)
    (unopened more (open-join s None d n levels t v fs gs p q m (apart-front t v (41 ∷ more) (seam_of k))) m short)
reads-join levels limit room t u fs gs e p (unmarked {d = d} {n = n} {place = o} {t = v} more q m h) l k =
    let short : length (t ++ v) < limit = grind (arith, common_steps) in
    let place : length (t ++ v) ≡ length t + length v = grind (arith, common_steps) in
    reads-as levels limit (append fs gs) ((t ++ v) ++ 41 ∷ more) _ _ _ (append_assoc t v (41 ∷ more)) (ap (λ (z : ℕ). fault 2 z) place)
    (unmarked more (open-join _ (Some o) d n levels t v fs gs p q m (apart-front t v (41 ∷ more) (seam_of k))) m short)
reads-join levels limit room t u fs gs e p (stopped {s = s} {o = o} {d = d} {n = n} {code = code} {t = v} {v = x} more q m i w h) l k =
    let joined : ((t ++ v) ++ x) ++ more ≡ t ++ ((v ++ x) ++ more) = grind (arith, common_steps) in
    let short : length ((t ++ v) ++ x) ≤ limit = grind (arith, common_steps) in
    let place : length (t ++ v) ≡ length t + length v = grind (arith, common_steps) in
    let seam : Apart t (v ++ x) = apart-front t (v ++ x) more (seam_of k) in
    let some : 0 < length x = stops-some s d x code w in
    let some_more : 0 < length (v ++ x) = grind (arith, common_steps, some) in
    reads-as levels limit (append fs gs) ((t ++ v) ++ x ++ more) _ _ _ joined (ap (λ (z : ℕ). fault code z) place)
    (stopped more (open-join s o d n levels t v fs gs p q m (apart-front t v x seam)) m (seam-join t v x i some_more seam) w short)
reads-join levels limit room t u fs gs e p (judged {s = s} {o = o} {d = d} {n = n} {code = code} {t = v} {w = w} more q m c j a h) l k =
    let joined : ((t ++ v) ++ w) ++ more ≡ t ++ ((v ++ w) ++ more) = grind (arith, common_steps) in
    let count : length ((t ++ v) ++ w) ≡ length t + length (v ++ w) = grind (arith, common_steps) in
    let most : length (v ++ w) ≤ room = h.0 in
    let place : length (t ++ v) ≡ length t + length v = grind (arith, common_steps) in
    let seam : Apart t (v ++ w) = apart-front t (v ++ w) more (seam_of k) in
    let seen : (more ≡ []) ⊎ (length ((t ++ v) ++ w) < limit) = elim h.1 [ inl n ↦ inl n | inr lt ↦ inr (omega (arith, lt, count, l)) ] in
    reads-as levels limit (append fs gs) ((t ++ v) ++ w ++ more) _ _ _ joined (ap (λ (z : ℕ). fault code z) place)
    (judged more (open-join s o d n levels t v fs gs p q m (apart-front t v w seam)) m (closed-seam t v w c (judged-front s d w code j) seam) j a (omega (arith, most, count, l), seen))
reads-join levels limit room t u fs gs e p (sharp {s = s} {o = o} {d = d} {n = n} {t = v} more q m a h) l k =
    let count : length ((t ++ v) ++ 35 ∷ []) ≡ length t + length (v ++ 35 ∷ []) = grind (arith, common_steps) in
    let most : length (v ++ 35 ∷ []) ≤ room = h.0 in
    let place : length (t ++ v) ≡ length t + length v = grind (arith, common_steps) in
    let seen : (more ≡ []) ⊎ (length ((t ++ v) ++ 35 ∷ []) < limit) = elim h.1 [ inl n ↦ inl n | inr lt ↦ inr (omega (arith, lt, count, l)) ] in
    reads-as levels limit (append fs gs) ((t ++ v) ++ 35 ∷ more) _ _ _ (append_assoc t v (35 ∷ more)) (ap (λ (z : ℕ). fault 2 z) place)
    (sharp more (open-join s o d n levels t v fs gs p q m (apart-front t v (35 ∷ more) (seam_of k))) m a (omega (arith, most, count, l), seen))
reads-join levels limit room t u fs gs e p (past b more (holds {s = s} {o = o} {d = d} {n = n} {t = v} {v = x} q m i g) h) l k =
    let short : length ((t ++ v) ++ x) ≡ limit = grind (arith, common_steps) in
    let joined : ((t ++ v) ++ x) ++ b ∷ more ≡ t ++ ((v ++ x) ++ b ∷ more) = grind (arith, common_steps) in
    reads-as levels limit (append fs gs) ((t ++ v) ++ x ++ b ∷ more) _ _ _ joined refl
    (past b more (holds (open-join s o d n levels t v fs gs p q m (apart-front t v x (apart-front t (v ++ x) (b ∷ more) (seam_of k)))) m (seam-past k) g) short)
  where
    seam-past : IsTrue (is_closed t) ⊎ (IsTrue (begins_apart ((v ++ x) ++ b ∷ more)) × (((v ++ x) ++ b ∷ more ≡ []) ⊎ (0 < room))) → Seam (t ++ v) x
    seam-past k = seam-at v x i k h
      where
        no_text : (y : List ℕ) → y ++ b ∷ more ≡ [] → ⊥
        no_text [] e = cc
        no_text (c ∷ y) e = cc

        seam-at : (v x : List ℕ) → Seam v x → IsTrue (is_closed t) ⊎ (IsTrue (begins_apart ((v ++ x) ++ b ∷ more)) × (((v ++ x) ++ b ∷ more ≡ []) ⊎ (0 < room))) → length (v ++ x) ≡ room → Seam (t ++ v) x
        seam-at (c ∷ v) x (inl e) k h = inl (closed-append t v c e)
        seam-at v x (inr a) k h = inr a
        seam-at [] x (inl e) (inl k) h = inl (subst (λ (z : List ℕ). IsTrue (is_closed z)) (sym (append-nil t)) k)
        seam-at [] [] (inl e) (inr k) h = absurd (elim k.1 [ inl n ↦ no_text [] n | inr lt ↦ omega (arith, lt, h) ])
        seam-at [] (c ∷ x) (inl e) (inr k) h = inr (k.0, omega arith)
