-- What the machine answers at a fault, and at the end.
use Rattle.std.proofs.Common.{◌≡◌, ℕ, ◌+◌, ◌<◌, ◌≤◌, Bool, true, false, List, [], ◌∷◌, length, refl, ap, sym, ◌∙◌, subst, arith, inl, inr, nat_eq}
use Rattle.std.specs.Prelude.{Option, None, Some, IsTrue, not, ◌||◌, ◌⊎◌}
use Rattle.std.specs.List.{list_all}
use Rattle.std.proofs.lemmas.Grind.{common_steps}
use Rattle.std.proofs.lemmas.Bool.{eqb-true}
use Rattle.nq_form.specs.Form.{Form, Forms, end, dotted, next}
use Rattle.nq_form.specs.Bytes.{is_constituent, is_separator, is_opening, is_closed}
use Rattle.nq_form.specs.Token.{Token, IsWide, IsBad}
use Rattle.nq_form.specs.Grammar.{Items, Spot, outermost, in_list, past_mark, takes_form, takes_dot, Stops, unknown, too_deep, no_tail, two_tails, Judged, bad, too_wide, misplaced, Ending, fault}
use Rattle.nq_form.proofs.Spelling.{is_false}
use Rattle.nq_form.specs.Kinds.{Kind, form, single_dot, too_wide as wide_kind, no_token}
use Rattle.nq_form.specs.Machine.{Frame, Opened, list, dot, mark, Stack, word, State, live, stopped, idle, outer, takes, apart_kind, opening, deeper, judged, judge, dotted_at, run, spot_of, first_list, close, close_at, close_dot, close_mark}
use Rattle.nq_form.proofs.Giving.{dot_on}
use Rattle.nq_form.proofs.Running.{run-nothing, run-idle, run-word}
use Rattle.nq_form.proofs.Reaching.{IsToken, reach-apart, reach-closed}
use Rattle.nq_form.proofs.Standing.{Stands, reach-past_dot, items-nothing}

neither : (x y : Bool) → IsTrue (not (x || y)) → IsTrue (not x) × IsTrue (not y)
neither true y h = cc
neither false y h = (refl, h)

either : (x y : Bool) → IsTrue (x || y) → IsTrue x ⊎ IsTrue y
either true y h = inl refl
either false y h = inr h

abbrev IsOpeningByte : ℕ → Type 0
IsOpeningByte b = (is_separator b ≡ false) × IsTrue (not (is_constituent b))

opening-at : (b n : ℕ) → IsTrue (nat_eq b n) → IsOpeningByte n → IsOpeningByte b
opening-at b n e h = let same : b ≡ n = eqb-true b n e in subst IsOpeningByte (sym same) h

pub opening-byte : (b : ℕ) → IsTrue (is_opening b) → IsOpeningByte b
opening-byte b h = elim (either (nat_eq b 40 || nat_eq b 39) (nat_eq b 34) h) [
  | inr e ↦ opening-at b 34 e (refl, refl)
  | inl k ↦ elim (either (nat_eq b 40) (nat_eq b 39) k) [ inl e ↦ opening-at b 40 e (refl, refl) | inr e ↦ opening-at b 39 e (refl, refl) ]
]

close-no_tail : (frames : List Frame) (fs : Forms) (at d last : ℕ) → spot_of frames fs ≡ in_list → close_dot end (record { opened = dot; forms = fs; place = at }) frames d last ≡ stopped (outer frames fs) (fault 2 at)
close-no_tail [] fs at d last e = cc
close-no_tail (f ∷ frames) fs at d last e = refl

close_at-outside : (o : Opened) (f : Frame) (frames : List Frame) (fs : Forms) (d at : ℕ) → (spot_of (record { opened = o; forms = f.forms; place = f.place } ∷ frames) fs ≡ outermost) ⊎ (spot_of (record { opened = o; forms = f.forms; place = f.place } ∷ frames) fs ≡ past_mark)
    → first_list (record { opened = o; forms = f.forms; place = f.place } ∷ frames) ≡ None → close_at o f frames fs d at ≡ stopped (outer (f ∷ frames) fs) (fault 1 at)
close_at-outside list f frames fs d at s e = cc
close_at-outside dot f frames end d at s e = absurd (elim s [ inl h ↦ cc | inr h ↦ cc ])
close_at-outside dot f frames (dotted g) d at s e = absurd (elim s [ inl h ↦ cc | inr h ↦ cc ])
close_at-outside dot f frames (next g gs) d at s e = absurd (elim s [ inl h ↦ cc | inr h ↦ cc ])
close_at-outside mark f frames fs d at s e = ap (λ (z : Option ℕ). close_mark z (f ∷ frames) fs at) e

pub close-outside : (frames : List Frame) (fs : Forms) (d at : ℕ) → (spot_of frames fs ≡ outermost) ⊎ (spot_of frames fs ≡ past_mark) → first_list frames ≡ None → close frames fs d at ≡ stopped (outer frames fs) (fault 1 at)
close-outside [] fs d at s e = refl
close-outside (f ∷ frames) fs d at s e = close_at-outside f.opened f frames fs d at s e

close_at-marked : (o : Opened) (f : Frame) (frames : List Frame) (fs : Forms) (d at place : ℕ) → spot_of (record { opened = o; forms = f.forms; place = f.place } ∷ frames) fs ≡ past_mark
    → first_list (record { opened = o; forms = f.forms; place = f.place } ∷ frames) ≡ Some place → close_at o f frames fs d at ≡ stopped (outer (f ∷ frames) fs) (fault 2 at)
close_at-marked list f frames end d at place s e = cc
close_at-marked list f frames (dotted g) d at place s e = cc
close_at-marked list f frames (next g gs) d at place s e = cc
close_at-marked dot f frames end d at place s e = cc
close_at-marked dot f frames (dotted g) d at place s e = cc
close_at-marked dot f frames (next g gs) d at place s e = cc
close_at-marked mark f frames fs d at place s e = ap (λ (z : Option ℕ). close_mark z (f ∷ frames) fs at) e

pub close-marked : (frames : List Frame) (fs : Forms) (d at place : ℕ) → spot_of frames fs ≡ past_mark → first_list frames ≡ Some place → close frames fs d at ≡ stopped (outer frames fs) (fault 2 at)
close-marked [] fs d at place s e = cc
close-marked (f ∷ frames) fs d at place s e = close_at-marked f.opened f frames fs d at place s e

-- a run of constituents that is of a kind
pub record IsRun (kind_of : List ℕ → Kind) (w : List ℕ) (kind : Kind) : Type 0 where
  pub first : ℕ
  pub rest : List ℕ
  pub bytes : w ≡ first ∷ rest
  pub constituents : IsTrue (list_all is_constituent (first ∷ rest))
  pub kind_is : kind_of (first ∷ rest) ≡ kind

-- A text leads to a token that is a fault.
pub record Fails (kind_of : List ℕ → Kind) (limit at : ℕ) (s : State) (w : List ℕ) (fs : Forms) (e : Ending) : Type 0 where
  pub under : Stack
  pub place : ℕ
  pub token : List ℕ
  pub reached : run kind_of limit at s w ≡ live under (word place token)
  pub failed : judge kind_of place under token ≡ stopped fs e

module _ (kind_of : List ℕ → Kind) (limit : ℕ) (named : (w : List ℕ) (f : Form) → Token w f → IsToken kind_of w f) (dot_kind : kind_of (46 ∷ []) ≡ single_dot)
    (wide : (w : List ℕ) → IsWide w → IsRun kind_of w wide_kind) (no_kind : (w : List ℕ) → IsBad w → IsRun kind_of w no_token) where
  -- a byte that is no constituent comes at once
  pub stops-apart : (s : Spot) (o : Option ℕ) (d : ℕ) (fs : Forms) (k : Stack) (at : ℕ) (v : List ℕ) (code : ℕ) → Stops s d v code → Stands s o d fs k → at + length v ≤ limit
      → run kind_of limit at (idle k) v ≡ stopped fs (fault code at)
  stops-apart s o d fs k at v code (unknown b h) st room =
      let lt : at < limit = grind (arith, common_steps) in
      let no_sharp = neither _ (nat_eq b 35) h in
      let no_semicolon = neither _ (nat_eq b 59) no_sharp.0 in
      let no_close = neither _ (nat_eq b 41) no_semicolon.0 in
      let no_opening = neither _ (is_opening b) no_close.0 in
      let no_other = neither (is_separator b) (is_constituent b) no_opening.0 in
      run-idle kind_of limit at k b [] lt no_other.1 ∙ run-nothing kind_of limit (at + 1) _
      ∙ ap (λ (z : Bool). apart_kind z (is_opening b) (nat_eq b 41) (nat_eq b 59) (nat_eq b 35) at k b) (is_false _ no_other.0)
      ∙ ap (λ (z : Bool). apart_kind false z (nat_eq b 41) (nat_eq b 59) (nat_eq b 35) at k b) (is_false _ no_opening.1)
      ∙ ap (λ (z : Bool). apart_kind false false z (nat_eq b 59) (nat_eq b 35) at k b) (is_false _ no_close.1)
      ∙ ap (λ (z : Bool). apart_kind false false false z (nat_eq b 35) at k b) (is_false _ no_semicolon.1)
      ∙ ap (λ (z : Bool). apart_kind false false false false z at k b) (is_false _ no_sharp.1)
      ∙ ap (λ (z : Forms). stopped z (fault 2 at)) st.forms
  stops-apart s o d fs k at v code (too_deep b which h) st room =
      let lt : at < limit = grind (arith, common_steps) in
      let free : takes k ≡ true = ap takes_form st.spot ∙ h in
      elim which [
        | inl e ↦
            ap (λ (z : ℕ). run kind_of limit at (idle k) (z ∷ [])) e ∙ run-idle kind_of limit at k 40 [] lt refl ∙ run-nothing kind_of limit (at + 1) _
            ∙ ap (λ (z : Bool). opening z at k 40) free ∙ ap (λ (z : ℕ). deeper z list at k) st.depth ∙ ap (λ (z : Forms). stopped z (fault 4 at)) st.forms
        | inr e ↦
            ap (λ (z : ℕ). run kind_of limit at (idle k) (z ∷ [])) e ∙ run-idle kind_of limit at k 39 [] lt refl ∙ run-nothing kind_of limit (at + 1) _
            ∙ ap (λ (z : Bool). opening z at k 39) free ∙ ap (λ (z : ℕ). deeper z mark at k) st.depth ∙ ap (λ (z : Forms). stopped z (fault 4 at)) st.forms
      ]
  stops-apart s o d fs k at v code (no_tail {u = u} p a) st room =
      let inside : at + length (46 ∷ u) ≤ limit = grind (arith, common_steps) in
      let lt : at + length (46 ∷ u) < limit = grind (arith, common_steps) in
      let depth : k.depth ≡ d = st.depth in
      reach-apart kind_of limit at (idle k) (46 ∷ u) _ 41 [] (reach-past_dot kind_of limit named dot_kind at d k u end (ap takes_dot st.spot) p (omega (arith, depth)) a (inl refl) inside) refl lt
      ∙ run-idle kind_of limit (at + length (46 ∷ u)) (dot_on k.forms at k.frames end k.depth) 41 [] lt refl ∙ run-nothing kind_of limit (at + length (46 ∷ u) + 1) _
      ∙ close-no_tail k.frames k.forms at k.depth (at + length (46 ∷ u)) st.spot ∙ ap (λ (z : Forms). stopped z (fault 2 at)) st.forms
  stops-apart s o d fs k at v code (two_tails {u = u} {f = f} b p a h) st room =
      let inside : at + length (46 ∷ u) ≤ limit = grind (arith, common_steps) in
      let lt : at + length (46 ∷ u) < limit = grind (arith, common_steps) in
      let depth : k.depth ≡ d = st.depth in
      let byte = opening-byte b h in
      let full : Stack = dot_on k.forms at k.frames (next f end) k.depth in
      reach-apart kind_of limit at (idle k) (46 ∷ u) _ b [] (reach-past_dot kind_of limit named dot_kind at d k u (next f end) (ap takes_dot st.spot) p (omega (arith, depth)) a (inr (f, refl)) inside) byte.1 lt
      ∙ run-idle kind_of limit (at + length (46 ∷ u)) full b [] lt byte.1 ∙ run-nothing kind_of limit (at + length (46 ∷ u) + 1) _
      ∙ ap (λ (z : Bool). apart_kind z (is_opening b) (nat_eq b 41) (nat_eq b 59) (nat_eq b 35) (at + length (46 ∷ u)) full b) byte.0
      ∙ ap (λ (z : Bool). apart_kind false z (nat_eq b 41) (nat_eq b 59) (nat_eq b 35) (at + length (46 ∷ u)) full b) h
      ∙ ap (λ (z : Forms). stopped z (fault 2 at)) st.forms

  fails-run : (at : ℕ) (k : Stack) (w : List ℕ) (kind : Kind) (fs : Forms) (e : Ending) → IsRun kind_of w kind → at + length w ≤ limit → judged kind at k ≡ stopped fs e → Fails kind_of limit at (idle k) w fs e
  fails-run at k w kind fs e i room j =
      let short : at + length (i.first ∷ i.rest) ≤ limit = subst (λ (z : List ℕ). at + length z ≤ limit) i.bytes room in
      subst (λ (z : List ℕ). Fails kind_of limit at (idle k) z fs e) (sym i.bytes) (record {
        under = k;
        place = at;
        token = i.first ∷ i.rest;
        reached = run-word kind_of limit at k i.first i.rest short i.constituents;
        failed = ap (λ (z : Kind). judged z at k) i.kind_is ∙ j;
      })

  tail-closed : (d : ℕ) (u : List ℕ) (f : Form) → Items d u (next f end) → IsTrue (is_closed u) → IsTrue (is_closed (46 ∷ u))
  tail-closed d [] f p c = let none : next f end ≡ end = items-nothing kind_of limit named dot_kind d (next f end) p in cc
  tail-closed d (b ∷ u) f p c = c

  pub judged-fails : (s : Spot) (o : Option ℕ) (d : ℕ) (fs : Forms) (k : Stack) (at : ℕ) (w : List ℕ) (code : ℕ) → Judged s d w code → Stands s o d fs k → at + length w ≤ limit
      → Fails kind_of limit at (idle k) w fs (fault code at)
  judged-fails s o d fs k at w code (bad b) st room = fails-run at k w no_token fs (fault 2 at) (no_kind w b) room (ap (λ (z : Forms). stopped z (fault 2 at)) st.forms)
  judged-fails s o d fs k at w code (too_wide b) st room = fails-run at k w wide_kind fs (fault 3 at) (wide w b) room (ap (λ (z : Forms). stopped z (fault 3 at)) st.forms)
  judged-fails s o d fs k at w code (misplaced h) st room =
      fails-run at k w single_dot fs (fault 2 at) (record { first = 46; rest = []; bytes = refl; constituents = refl; kind_is = dot_kind }) room
      (ap (λ (z : Spot). dotted_at (takes_dot z) at k) st.spot ∙ ap (λ (z : Bool). dotted_at z at k) (is_false (takes_dot s) h) ∙ ap (λ (z : Forms). stopped z (fault 2 at)) st.forms)
  judged-fails s o d fs k at w code (two_tails {u = u} {f = f} {g = g} x p a c i) st room =
      let inside : at + length (46 ∷ u) ≤ limit = grind (arith, common_steps) in
      let behind : at + length (46 ∷ u) + length x ≤ limit = grind (arith, common_steps) in
      let depth : k.depth ≡ d = st.depth in
      let full : Stack = dot_on k.forms at k.frames (next f end) k.depth in
      let is = named x g i in
      let last : Fails kind_of limit (at + length (46 ∷ u)) (idle full) x fs (fault 2 at) =
      fails-run (at + length (46 ∷ u)) full x (form g) fs (fault 2 at) (record { first = is.first; rest = is.rest; bytes = is.bytes; constituents = is.constituents; kind_is = is.kind }) behind
      (ap (λ (z : Forms). stopped z (fault 2 at)) st.forms) in
      record {
        under = last.under;
        place = last.place;
        token = last.token;
        reached = reach-closed kind_of limit at (idle k) (46 ∷ u) full x
            (reach-past_dot kind_of limit named dot_kind at d k u (next f end) (ap takes_dot st.spot) p (omega (arith, depth)) a (inr (f, refl)) inside) (tail-closed d u f p c) ∙ last.reached;
        failed = last.failed;
      }
