-- One byte more.
use Rattle.std.proofs.Common.{◌≡◌, ℕ, zero, suc, ◌+◌, ◌<◌, ◌≤◌, Bool, true, false, List, [], ◌∷◌, ◌++◌, length, refl, ap, sym, ◌∙◌, subst, arith, append_assoc, append-nil, inl, inr, nat_eq}
use Rattle.std.specs.Prelude.{Option, None, Some, IsTrue, not, ◌||◌, ◌⊎◌}
use Rattle.std.specs.List.{list_all}
use Rattle.std.proofs.lemmas.Grind.{common_steps}
use Rattle.std.proofs.lemmas.Bool.{eqb-true}
use Rattle.nq_form.specs.Form.{Form, Forms, listed, end, dotted, next, append, push}
use Rattle.nq_form.specs.Bytes.{is_separator, is_opening, is_known, is_constituent, is_closed, begins_apart}
use Rattle.nq_form.specs.Blank.{is_no_line_end, separator, Comment, Commenting, Quotes, empty}
use Rattle.nq_form.specs.Grammar.{Items, none, nested, tailed, Spot, in_list, past_mark, takes_form, spot_in, spot_past, Open, whole, Seam, Stops, unknown, too_deep, no_tail, two_tails, fault, Reads, unopened, unmarked, stopped as stopped_reads}
use Rattle.nq_form.specs.Machine.{Opened, list, dot, mark, Frame, Stack, Mode, word, sharp, line, block, string, State, live, stopped, idle, outer, outer_of, first_list, spot_of, top_place, levels_of, takes, put, opened_on, deeper, opening, opening_kind, close, close_dot, close_mark, apart_kind, apart_byte}
use Rattle.nq_form.proofs.Spelling.{is_false, closed-last, closed-back, closed-inner}
use Rattle.nq_form.proofs.Giving.{IsProper, items-proper}
use Rattle.nq_form.proofs.Seams.{moved}
use Rattle.nq_form.proofs.Built.{OneOrNone, Built, bottom, behind_list, behind_dot, behind_mark, Piece, After, after-as, built-blank, built-give, Opening, opening-of}
use Rattle.nq_form.proofs.Commented.{Carries}
use Rattle.nq_form.proofs.Settling.{Faulty, tails-of}

-- What has begun behind a stack and isn't whole.
pub data Going (base : ℕ) (k : Stack) (n : ℕ) : Mode → List ℕ → Type 0 where
  nothing : {p : ℕ} → Going base k n (word p []) []
  in_token : (b : ℕ) (w : List ℕ) → IsTrue (list_all is_constituent (b ∷ w)) → Going base k n (word (base + n) (b ∷ w)) (b ∷ w)
  in_sharp : Going base k n (sharp (base + n)) (35 ∷ [])
  in_line : (c : List ℕ) → IsTrue (list_all is_no_line_end c) → Going base k n line (59 ∷ c)
  in_block : {m q : ℕ} (c : List ℕ) → Carries Comment m q c → Carries Commenting m q c → Going base k n (block (base + n) m q) (35 ∷ 124 ∷ c)
  in_string : {s bytes : List ℕ} → IsTrue (takes k) → Quotes s bytes → Going base k n (string (base + n) bytes false) (34 ∷ s)
  in_escape : {s bytes : List ℕ} → IsTrue (takes k) → Quotes s bytes → Going base k n (string (base + n) bytes true) (34 ∷ s ++ 92 ∷ [])

-- A state is that of a text: a stack, and what has begun behind it.
pub record Standing (base levels : ℕ) (k : Stack) (m : Mode) (t : List ℕ) : Type 0 where
  pub before : List ℕ
  pub begun : List ℕ
  pub text : t ≡ before ++ begun
  pub after : After base levels k before
  pub seam : Seam before begun
  pub going : Going base k (length before) m begun

-- A state is right for a text, whatever comes behind it.
abbrev pub IsRight : ℕ → ℕ → ℕ → List ℕ → State → Type 0
IsRight base levels limit t (live k m) = Standing base levels k m t
IsRight base levels limit t (stopped fs e) = (more : List ℕ) → Faulty base levels limit (t ++ more) fs e

or_left : (a b : Bool) → IsTrue (a || b) → b ≡ false → IsTrue a
or_left true b h e = refl
or_left false b h e = cc

opening-41 : (b : ℕ) → nat_eq b 34 ≡ false → nat_eq b 39 ≡ false → IsTrue (is_opening b) → b ≡ 40
opening-41 b p q h = eqb-true b 40 (or_left (nat_eq b 40) (nat_eq b 39) (or_left (nat_eq b 40 || nat_eq b 39) (nat_eq b 34) h p) q)

unknown-byte : (b : ℕ) → IsTrue (not (is_constituent b)) → is_separator b ≡ false → is_opening b ≡ false → nat_eq b 41 ≡ false → nat_eq b 59 ≡ false → nat_eq b 35 ≡ false → IsTrue (not (is_known b))
unknown-byte b a s o c l h =
    ap (λ (z : Bool). not (z || is_constituent b || is_opening b || nat_eq b 41 || nat_eq b 59 || nat_eq b 35)) s
    ∙ ap (λ (z : Bool). not (false || z || is_opening b || nat_eq b 41 || nat_eq b 59 || nat_eq b 35)) (is_false (is_constituent b) a)
    ∙ ap (λ (z : Bool). not (z || nat_eq b 41 || nat_eq b 59 || nat_eq b 35)) o
    ∙ ap (λ (z : Bool). not (z || nat_eq b 59 || nat_eq b 35)) c ∙ ap (λ (z : Bool). not (z || nat_eq b 35)) l ∙ ap (λ (z : Bool). not z) h

tail-of : (hs : Forms) → IsProper hs → spot_in hs ≡ in_list → (g : Form) × (gs : Forms) × (hs ≡ next g gs)
tail-of end p e = cc
tail-of (dotted f) p e = absurd p
tail-of (next g gs) p e = (g, gs, refl)

one-more : (f : Form) (fs : Forms) → OneOrNone (next f fs) → fs ≡ end
one-more f fs (inl e) = cc
one-more f fs (inr (g, e)) = cc

no-dotted : (f : Form) → OneOrNone (dotted f) → ⊥
no-dotted f (inl e) = cc
no-dotted f (inr (g, e)) = cc

module _ (base levels limit : ℕ) where
  pub closed-standing : (k : Stack) (p : ℕ) (t : List ℕ) → After base levels k t → IsTrue (is_closed t) → Standing base levels k (word p []) t
  closed-standing k p t a c = record { before = t; begun = []; text = sym (append-nil t); after = a; seam = inl c; going = nothing }

  -- a fault behind what is open, which its last byte shows
  stops-fault : (k : Stack) (t v : List ℕ) (code place : ℕ) → After base levels k t → Stops (spot_of k.frames k.forms) k.depth v code → IsTrue (begins_apart v) → 0 < length v → length (t ++ v) ≤ limit → place ≡ base + length t
      → (more : List ℕ) → Faulty base levels limit ((t ++ v) ++ more) (outer_of k) (fault code place)
  stops-fault k t v code place a s h some room e more =
      let o = opening-of base k.frames k.forms k.depth t a.built in (length t, e, stopped_reads more o.is a.all (inr (h, some)) s room)

  module _ (k : Stack) (t : List ℕ) (b : ℕ) (a : After base levels k t) (h : IsTrue (not (is_constituent b))) (lt : length t < limit) where
    room_one : length (t ++ b ∷ []) ≤ limit
    room_one = grind (arith, common_steps, lt)

    room_of : (c : ℕ) → length (t ++ c ∷ []) ≤ limit
    room_of c = grind (arith, common_steps, lt)

    closed_one : IsTrue (is_closed (t ++ b ∷ []))
    closed_one = closed-last t b h

    blank-right : IsTrue (is_separator b) → IsRight base levels limit (t ++ b ∷ []) (idle k)
    blank-right s = closed-standing k 0 (t ++ b ∷ []) (record { built = built-blank base k.frames k.forms k.depth t (b ∷ []) a.built (separator b s); all = a.all }) closed_one

    as_byte : (c : ℕ) (s : State) → b ≡ c → IsRight base levels limit (t ++ c ∷ []) s → IsRight base levels limit (t ++ b ∷ []) s
    as_byte c s e r = subst (λ (z : ℕ). IsRight base levels limit (t ++ z ∷ []) s) (sym e) r

    -- a string, a comment or a sharp sign begins
    begun-right : (m : Mode) → Going base k (length t) m (b ∷ []) → Standing base levels k m (t ++ b ∷ [])
    begun-right m g = record { before = t; begun = b ∷ []; text = refl; after = a; seam = inr (h, omega arith); going = g }

    begun-as : (c : ℕ) (m : Mode) → b ≡ c → Going base k (length t) m (c ∷ []) → Standing base levels k m (t ++ b ∷ [])
    begun-as c m e g = begun-right m (subst (λ (z : ℕ). Going base k (length t) m (z ∷ [])) (sym e) g)

    opened-right : (what : Opened) (d : ℕ) → k.depth ≡ suc d → takes k ≡ true → ((what ≡ list) × (b ≡ 40)) ⊎ ((what ≡ mark) × (b ≡ 39)) → IsRight base levels limit (t ++ b ∷ []) (idle (opened_on what (base + length t) k d))
    opened-right what d e f (inl w) =
        let deep : Built base k.frames k.forms (suc d) t = subst (λ (z : ℕ). Built base k.frames k.forms z t) e a.built in
        let room : d + suc (levels_of k.frames) ≡ levels = omega (arith, a.all, e) in
        subst (λ (z : Opened). IsRight base levels limit (t ++ b ∷ []) (idle (opened_on z (base + length t) k d))) (sym w.0)
        (closed-standing (opened_on list (base + length t) k d) 0 (t ++ b ∷ []) (record { built = subst (λ (z : ℕ). Built base (record { opened = list; forms = k.forms; place = base + length t } ∷ k.frames) end d (t ++ z ∷ [])) (sym w.1) (behind_list deep f none); all = room }) closed_one)
    opened-right what d e f (inr w) =
        let deep : Built base k.frames k.forms (suc d) t = subst (λ (z : ℕ). Built base k.frames k.forms z t) e a.built in
        let room : d + suc (levels_of k.frames) ≡ levels = omega (arith, a.all, e) in
        subst (λ (z : Opened). IsRight base levels limit (t ++ b ∷ []) (idle (opened_on z (base + length t) k d))) (sym w.0)
        (closed-standing (opened_on mark (base + length t) k d) 0 (t ++ b ∷ []) (record { built = subst (λ (z : ℕ). Built base (record { opened = mark; forms = k.forms; place = base + length t } ∷ k.frames) end d (t ++ z ∷ [])) (sym w.1) (behind_mark deep f none); all = room }) closed_one)

    deeper-right : (what : Opened) (d : ℕ) → k.depth ≡ d → takes k ≡ true → ((what ≡ list) × (b ≡ 40)) ⊎ ((what ≡ mark) × (b ≡ 39)) → IsRight base levels limit (t ++ b ∷ []) (deeper d what (base + length t) k)
    deeper-right what (suc d) e f w = opened-right what d e f w
    deeper-right what zero e f w =
        let byte : (b ≡ 40) ⊎ (b ≡ 39) = elim w [ inl x ↦ inl x.1 | inr x ↦ inr x.1 ] in
        stops-fault k t (b ∷ []) 4 (base + length t) a (subst (λ (z : ℕ). Stops (spot_of k.frames k.forms) z (b ∷ []) 4) (sym e) (too_deep b byte f)) h (omega arith) room_one refl

    opening_kind-right : (q m : Bool) → nat_eq b 34 ≡ q → nat_eq b 39 ≡ m → IsTrue (is_opening b) → takes k ≡ true → IsRight base levels limit (t ++ b ∷ []) (opening_kind q m (base + length t) k)
    opening_kind-right true m e g o f = let same : b ≡ 34 = eqb-true b 34 e in begun-as 34 (string (base + length t) [] false) same (in_string f empty)
    opening_kind-right false true e g o f = deeper-right mark k.depth refl f (inr (refl, eqb-true b 39 g))
    opening_kind-right false false e g o f = deeper-right list k.depth refl f (inl (refl, opening-41 b e g o))

    -- behind a dot and its form
    tail-fault : takes k ≡ false → IsTrue (is_opening b) → (more : List ℕ) → Faulty base levels limit ((t ++ b ∷ []) ++ more) (outer_of k) (fault 2 (top_place k.frames))
    tail-fault e o more =
        let l = tails-of base k.frames k.forms k.depth t a.built e in
        let room : k.depth + levels_of l.under ≡ levels = omega (arith, a.all, l.levels) in
        let p = opening-of base l.under l.forms k.depth l.before l.built in
        let open_in : Open in_list p.first k.depth (levels_of l.under) l.before (outer l.under l.forms) = subst (λ (z : Spot). Open z p.first k.depth (levels_of l.under) l.before (outer l.under l.forms)) l.spot p.is in
        let joined : t ++ b ∷ [] ≡ l.before ++ (46 ∷ l.tail ++ b ∷ []) = ap (λ (z : List ℕ). z ++ b ∷ []) l.text ∙ append_assoc l.before (46 ∷ l.tail) (b ∷ []) in
        let short : length (l.before ++ (46 ∷ l.tail ++ b ∷ [])) ≤ limit = subst (λ (z : List ℕ). length z ≤ limit) joined room_one in
        let reads : Reads levels limit ((l.before ++ (46 ∷ l.tail ++ b ∷ [])) ++ more) (outer l.under l.forms) (fault 2 (length l.before)) =
        stopped_reads more open_in room (inl l.closed) (two_tails b l.items l.apart o) short in (
          length l.before,
          l.place,
          subst (λ (z : Forms). Reads levels limit ((t ++ b ∷ []) ++ more) z (fault 2 (length l.before))) (sym l.outside)
              (subst (λ (z : List ℕ). Reads levels limit (z ++ more) (outer l.under l.forms) (fault 2 (length l.before))) (sym joined) reads),
        )

    opening-right : (free : Bool) → takes k ≡ free → IsTrue (is_opening b) → IsRight base levels limit (t ++ b ∷ []) (opening free (base + length t) k b)
    opening-right true e o = opening_kind-right (nat_eq b 34) (nat_eq b 39) refl refl o e
    opening-right false e o = tail-fault e o

  -- the closing parenthesis
  listed-right : (under : List Frame) (hs : Forms) (d : ℕ) (x u : List ℕ) (gs : Forms) → Built base under hs (suc d) x → suc d + levels_of under ≡ levels → IsTrue (takes_form (spot_of under hs)) → Items d u gs
      → IsRight base levels limit ((x ++ 40 ∷ u) ++ 41 ∷ []) (idle (put under hs (suc d) (listed gs)))
  listed-right under hs d x u gs q e i p =
      let joined : x ++ (40 ∷ u ++ 41 ∷ []) ≡ (x ++ 40 ∷ u) ++ 41 ∷ [] = sym (append_assoc x (40 ∷ u) (41 ∷ [])) in
      let piece : Piece (suc d) (40 ∷ u ++ 41 ∷ []) (listed gs) = record { adds = λ t fs r s. subst (λ (z : List ℕ). Items (suc d) z (push fs (listed gs))) (append_assoc t (40 ∷ u) (41 ∷ [])) (nested r p) } in
      closed-standing (put under hs (suc d) (listed gs)) 0 ((x ++ 40 ∷ u) ++ 41 ∷ [])
      (after-as base levels _ _ _ joined (built-give base levels under hs (suc d) x (40 ∷ u ++ 41 ∷ []) (listed gs) q e i piece (inr refl))) (closed-last (x ++ 40 ∷ u) 41 refl)

  pub none-first : (f : Option ℕ) → None ≡ moved base f → f ≡ None
  none-first None e = refl
  none-first (Some p) e = cc

  pub some-first : (place : ℕ) (f : Option ℕ) → Some place ≡ moved base f → (p : ℕ) × (f ≡ Some p) × (place ≡ base + p)
  some-first place None e = cc
  some-first place (Some p) e = (p, refl, cc)

  -- a closing parenthesis behind a quote mark
  mark-right : (frames : List Frame) (d : ℕ) (t : List ℕ) (g : Option ℕ) → first_list frames ≡ g → Opening base frames end d t → spot_of frames end ≡ past_mark → d + levels_of frames ≡ levels → length t < limit
      → IsRight base levels limit (t ++ 41 ∷ []) (close_mark g frames end (base + length t))
  mark-right frames d t None h o s e lt = λ more.
      let outside : Open (spot_of frames end) None d (levels_of frames) t (outer frames end) =
      subst (λ (z : Option ℕ). Open (spot_of frames end) z d (levels_of frames) t (outer frames end)) (none-first o.first (sym h ∙ o.first_is)) o.is in
      (length t, refl, subst (λ (z : List ℕ). Reads levels limit z (outer frames end) (fault 1 (length t))) (sym (append_assoc t (41 ∷ []) more)) (unopened more outside e lt))
  mark-right frames d t (Some place) h o s e lt = λ more.
      let first = some-first place o.first (sym h ∙ o.first_is) in
      let inside : Open past_mark (Some first.0) d (levels_of frames) t (outer frames end) =
      subst (λ (z : Spot). Open z (Some first.0) d (levels_of frames) t (outer frames end)) s
      (subst (λ (z : Option ℕ). Open (spot_of frames end) z d (levels_of frames) t (outer frames end)) first.1 o.is) in
      (length t, refl, subst (λ (z : List ℕ). Reads levels limit z (outer frames end) (fault 2 (length t))) (sym (append_assoc t (41 ∷ []) more)) (unmarked more inside e lt))

  past-no_list : (hs : Forms) → spot_past hs ≡ in_list → ⊥
  past-no_list end h = cc
  past-no_list (dotted f) h = cc
  past-no_list (next f fs) h = cc

  -- a list with a dotted tail is closed
  tailed-right : (f : Frame) (under : List Frame) (hs : Forms) (d : ℕ) (x u : List ℕ) (g : Form) → Built base (f ∷ under) hs d x → spot_of (f ∷ under) hs ≡ in_list → d + levels_of (f ∷ under) ≡ levels → IsTrue (is_closed x)
      → Items d u (next g end) → IsTrue (begins_apart u) → IsRight base levels limit ((x ++ 46 ∷ u) ++ 41 ∷ []) (idle (put under f.forms (suc d) (listed (append hs (dotted g)))))
  tailed-right f under hs d x u g (behind_list {t = y} {u = v} {fs = js} q i p) s e c r a =
      let some = tail-of hs (items-proper d v hs p) s in
      let list_closed : IsTrue (is_closed v) = closed-inner 40 v (closed-back y 40 v c) in
      let first : Items d v (next some.0 some.1) = subst (λ (z : Forms). Items d v z) some.2 p in
      let joined : y ++ (40 ∷ v ++ 46 ∷ u ++ 41 ∷ []) ≡ ((y ++ 40 ∷ v) ++ 46 ∷ u) ++ 41 ∷ [] = grind (arith, common_steps) in
      let piece : Piece (suc d) (40 ∷ v ++ 46 ∷ u ++ 41 ∷ []) (listed (append hs (dotted g))) = record {
        adds = λ t fs w z.
            let more : t ++ 40 ∷ v ++ 46 ∷ u ++ 41 ∷ [] ≡ t ++ (40 ∷ v ++ 46 ∷ u ++ 41 ∷ []) = grind (arith, common_steps) in
            subst (λ (y : List ℕ). Items (suc d) y (push fs (listed (append hs (dotted g))))) more
            (subst (λ (y : Forms). Items (suc d) (t ++ 40 ∷ v ++ 46 ∷ u ++ 41 ∷ []) (push fs (listed (append y (dotted g))))) (sym some.2) (tailed w first r list_closed a));
      } in
      closed-standing (put under js (suc d) (listed (append hs (dotted g)))) 0 (((y ++ 40 ∷ v) ++ 46 ∷ u) ++ 41 ∷ [])
      (after-as base levels _ _ _ joined (built-give base levels under js (suc d) y (40 ∷ v ++ 46 ∷ u ++ 41 ∷ []) (listed (append hs (dotted g))) q (omega (arith, e)) i piece (inr refl)))
      (closed-last ((y ++ 40 ∷ v) ++ 46 ∷ u) 41 refl)
  tailed-right f under hs d x u g (behind_dot q i k p b w) s e c r a = absurd (past-no_list hs s)
  tailed-right f under hs d x u g (behind_mark q i p) s e c r a = cc

  dot-right : (f : Frame) (under : List Frame) (hs : Forms) (d : ℕ) (x u : List ℕ) (gs : Forms) → Built base (f ∷ under) hs d x → spot_of (f ∷ under) hs ≡ in_list → d + levels_of (f ∷ under) ≡ levels → IsTrue (is_closed x)
      → Items d u gs → IsTrue (begins_apart u) → OneOrNone gs → length (x ++ 46 ∷ u) < limit
      → IsRight base levels limit ((x ++ 46 ∷ u) ++ 41 ∷ []) (close_dot gs (record { opened = dot; forms = hs; place = base + length x }) (f ∷ under) d (base + length (x ++ 46 ∷ u)))
  dot-right f under hs d x u end q s e c p a w lt = λ more.
      let o = opening-of base (f ∷ under) hs d x q in
      let inside : Open in_list o.first d (levels_of (f ∷ under)) x (outer (f ∷ under) hs) = subst (λ (z : Spot). Open z o.first d (levels_of (f ∷ under)) x (outer (f ∷ under) hs)) s o.is in
      let joined : x ++ (46 ∷ u ++ 41 ∷ []) ≡ (x ++ 46 ∷ u) ++ 41 ∷ [] = sym (append_assoc x (46 ∷ u) (41 ∷ [])) in
      let short : length (x ++ (46 ∷ u ++ 41 ∷ [])) ≤ limit = grind (arith, common_steps, lt) in
      (length x, refl, subst (λ (z : List ℕ). Reads levels limit (z ++ more) (outer (f ∷ under) hs) (fault 2 (length x))) joined (stopped_reads more inside e (inl c) (no_tail p a) short))
  dot-right f under hs d x u (dotted g) q s e c p a w lt = absurd (no-dotted g w)
  dot-right f under hs d x u (next g gs) q s e c p a w lt =
      let one : gs ≡ end = one-more g gs w in tailed-right f under hs d x u g q s e c (subst (λ (z : Forms). Items d u (next g z)) one p) a

  pub close-right : (frames : List Frame) (fs : Forms) (d : ℕ) (t : List ℕ) → Built base frames fs d t → d + levels_of frames ≡ levels → length t < limit → IsRight base levels limit (t ++ 41 ∷ []) (close frames fs d (base + length t))
  close-right frames fs d t (bottom p) e lt = λ more.
      (length t, refl, subst (λ (z : List ℕ). Reads levels limit z fs (fault 1 (length t))) (sym (append_assoc t (41 ∷ []) more)) (unopened more (whole p) e lt))
  close-right frames fs d t (behind_list {frames = under} {t = x} {u = u} {fs = hs} q i p) e lt = listed-right under hs d x u fs q (omega (arith, e)) i p
  close-right frames fs d t (behind_mark {frames = under} {t = x} {u = u} {fs = hs} q i p) e lt =
      mark-right (record { opened = mark; forms = hs; place = base + length x } ∷ under) d (x ++ 39 ∷ u) (first_list under) refl (opening-of base _ end d (x ++ 39 ∷ u) (behind_mark q i p)) refl e lt
  close-right frames fs d t (behind_dot {frames = []} {t = x} {u = u} {fs = hs} q i c p a w) e lt = cc
  close-right frames fs d t (behind_dot {frames = f ∷ under} {t = x} {u = u} {fs = hs} q i c p a w) e lt = dot-right f under hs d x u fs q i e c p a w lt

  -- a byte that is no constituent
  module _ (k : Stack) (t : List ℕ) (b : ℕ) (a : After base levels k t) (h : IsTrue (not (is_constituent b))) (lt : length t < limit) where
    apart_kind-right : (s o c l q : Bool) → is_separator b ≡ s → is_opening b ≡ o → nat_eq b 41 ≡ c → nat_eq b 59 ≡ l → nat_eq b 35 ≡ q → IsRight base levels limit (t ++ b ∷ []) (apart_kind s o c l q (base + length t) k b)
    apart_kind-right true o c l q e1 e2 e3 e4 e5 = blank-right k t b a h lt e1
    apart_kind-right false true c l q e1 e2 e3 e4 e5 = opening-right k t b a h lt (takes k) refl e2
    apart_kind-right false false true l q e1 e2 e3 e4 e5 =
        let same : b ≡ 41 = eqb-true b 41 e3 in
        as_byte k t b a h lt 41 _ same (close-right k.frames k.forms k.depth t a.built a.all lt)
    apart_kind-right false false false true q e1 e2 e3 e4 e5 = begun-as k t b a h lt 59 line (eqb-true b 59 e4) (in_line [] refl)
    apart_kind-right false false false false true e1 e2 e3 e4 e5 = begun-as k t b a h lt 35 (sharp (base + length t)) (eqb-true b 35 e5) in_sharp
    apart_kind-right false false false false false e1 e2 e3 e4 e5 =
        stops-fault k t (b ∷ []) 2 (base + length t) a (unknown b (unknown-byte b h e1 e2 e3 e4 e5)) h (omega arith) (room_one k t b a h lt) refl

    pub apart-right : IsRight base levels limit (t ++ b ∷ []) (apart_byte (base + length t) k b)
    apart-right = apart_kind-right (is_separator b) (is_opening b) (nat_eq b 41) (nat_eq b 59) (nat_eq b 35) refl refl refl refl refl
