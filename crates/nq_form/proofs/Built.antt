-- The text behind which a stack stands.
use Rattle.std.proofs.Common.{◌≡◌, ℕ, suc, ◌+◌, List, [], ◌∷◌, ◌++◌, length, refl, ap, sym, ◌∙◌, subst, arith, append_assoc, inl, inr}
use Rattle.std.specs.Prelude.{Option, None, Some, IsTrue, ◌⊎◌}
use Rattle.nq_form.specs.Form.{Form, Forms, quoted, end, dotted, next, push}
use Rattle.nq_form.specs.Bytes.{is_closed, begins_apart}
use Rattle.nq_form.specs.Blank.{IsBlank}
use Rattle.nq_form.specs.Grammar.{Items, blank, quote, Spot, takes_form, in_list, first_place, spot_past, Open, whole, list as list_open, dot as dot_open, mark as mark_open}
use Rattle.nq_form.specs.Machine.{Opened, list, dot, mark, Frame, Stack, outer, first_list, spot_of, levels_of, put}
use Rattle.nq_form.proofs.Spelling.{closed-back, closed-inner}
use Rattle.nq_form.proofs.Reaching.{blank-front, front-before}
use Rattle.nq_form.proofs.Seams.{moved}

abbrev pub OneOrNone : Forms → Type 0
OneOrNone gs = (gs ≡ end) ⊎ ((f : Form) × (gs ≡ next f end))

abbrev pub framed : Opened → Forms → ℕ → Frame
framed what fs at = record { opened = what; forms = fs; place = at }

-- Places are counted from so many bytes before the text.
pub data Built (base : ℕ) : List Frame → Forms → ℕ → List ℕ → Type 0 where
  bottom : {d : ℕ} {t : List ℕ} {fs : Forms} → Items d t fs → Built base [] fs d t
  behind_list : {frames : List Frame} {d : ℕ} {t u : List ℕ} {fs gs : Forms} → Built base frames fs (suc d) t → IsTrue (takes_form (spot_of frames fs)) → Items d u gs
      → Built base (framed list fs (base + length t) ∷ frames) gs d (t ++ 40 ∷ u)
  behind_dot : {frames : List Frame} {d : ℕ} {t u : List ℕ} {fs gs : Forms} → Built base frames fs d t → spot_of frames fs ≡ in_list → IsTrue (is_closed t) → Items d u gs → IsTrue (begins_apart u) → OneOrNone gs
      → Built base (framed dot fs (base + length t) ∷ frames) gs d (t ++ 46 ∷ u)
  behind_mark : {frames : List Frame} {d : ℕ} {t u : List ℕ} {fs : Forms} → Built base frames fs (suc d) t → IsTrue (takes_form (spot_of frames fs)) → Items d u end
      → Built base (framed mark fs (base + length t) ∷ frames) end d (t ++ 39 ∷ u)

abbrev pub Apart : List ℕ → List ℕ → Type 0
Apart t u = IsTrue (is_closed t) ⊎ IsTrue (begins_apart u)

-- A text adds this form to any text of so many levels.
pub record Piece (d : ℕ) (w : List ℕ) (f : Form) : Type 0 where
  pub adds : (t : List ℕ) (fs : Forms) → Items d t fs → Apart t w → Items d (t ++ w) (push fs f)

pub built-as : (base : ℕ) (frames : List Frame) (fs : Forms) (d : ℕ) (t u : List ℕ) → t ≡ u → Built base frames fs d t → Built base frames fs d u
built-as base frames fs d t u e b = subst (λ (z : List ℕ). Built base frames fs d z) e b

apart-behind : (t u w : List ℕ) (b : ℕ) → Apart (t ++ b ∷ u) w → Apart u w
apart-behind t u w b (inl c) = inl (closed-inner b u (closed-back t b u c))
apart-behind t u w b (inr a) = inr a

-- behind a dot the text goes on with no constituent
apart-dot : (t u w : List ℕ) → IsTrue (begins_apart u) → Apart (t ++ 46 ∷ u) w → IsTrue (begins_apart (u ++ w))
apart-dot t (b ∷ u) w a s = a
apart-dot t [] w a (inl c) = cc (closed-back t 46 [] c)
apart-dot t [] w a (inr k) = k

module _ (base : ℕ) where
  pub built-blank : (frames : List Frame) (fs : Forms) (d : ℕ) (t w : List ℕ) → Built base frames fs d t → IsBlank w → Built base frames fs d (t ++ w)
  built-blank frames fs d t w (bottom p) b = bottom (blank w p b)
  built-blank frames fs d t w (behind_list {t = x} {u = u} q h p) b = built-as base frames fs d _ _ (sym (append_assoc x (40 ∷ u) w)) (behind_list q h (blank w p b))
  built-blank frames fs d t w (behind_dot {t = x} {u = u} q e c p a o) b =
      built-as base frames fs d _ _ (sym (append_assoc x (46 ∷ u) w)) (behind_dot q e c (blank w p b) (front-before u w a (blank-front w b).0) o)
  built-blank frames fs d t w (behind_mark {t = x} {u = u} q h p) b = built-as base frames fs d _ _ (sym (append_assoc x (39 ∷ u) w)) (behind_mark q h (blank w p b))

  -- a stack, and the levels that are open in it
  pub record After (levels : ℕ) (k : Stack) (t : List ℕ) : Type 0 where
    pub built : Built base k.frames k.forms k.depth t
    pub all : k.depth + levels_of k.frames ≡ levels

  pub after-as : (levels : ℕ) (k : Stack) (t u : List ℕ) → t ≡ u → After levels k t → After levels k u
  after-as levels k t u e a = subst (λ (z : List ℕ). After levels k z) e a

  quoted-piece : (d : ℕ) (u w : List ℕ) (f : Form) → Items d (u ++ w) (next f end) → Piece (suc d) (39 ∷ u ++ w) (quoted f)
  quoted-piece d u w f p = record { adds = λ t fs q s. quote q p }

  one-spot : (gs : Forms) → IsTrue (takes_form (spot_past gs)) → gs ≡ end
  one-spot end h = refl
  one-spot (dotted f) h = cc
  one-spot (next f gs) h = cc

  pub built-give : (levels : ℕ) (frames : List Frame) (fs : Forms) (d : ℕ) (t w : List ℕ) (f : Form) → Built base frames fs d t → d + levels_of frames ≡ levels → IsTrue (takes_form (spot_of frames fs)) → Piece d w f → Apart t w
      → After levels (put frames fs d f) (t ++ w)
  built-give levels frames fs d t w f (bottom p) e h k s = record { built = bottom (k.adds t fs p s); all = e }
  built-give levels frames fs d t w f (behind_list {t = x} {u = u} q i p) e h k s =
      record { built = built-as base _ _ d _ _ (sym (append_assoc x (40 ∷ u) w)) (behind_list q i (k.adds u fs p (apart-behind x u w 40 s))); all = e }
  built-give levels frames fs d t w f (behind_dot {t = x} {u = u} q i c p a o) e h k s =
      let none : fs ≡ end = one-spot fs h in
      let one : push fs f ≡ next f end = ap (λ (z : Forms). push z f) none in
      record { built = built-as base _ _ d _ _ (sym (append_assoc x (46 ∷ u) w)) (behind_dot q i c (k.adds u fs p (apart-behind x u w 46 s)) (apart-dot x u w a s) (inr (f, one))); all = e }
  built-give levels frames fs d t w f (behind_mark {frames = under} {t = x} {u = u} {fs = hs} q i p) e h k s =
      after-as levels _ _ _ (sym (append_assoc x (39 ∷ u) w))
      (built-give levels under hs (suc d) x (39 ∷ u ++ w) (quoted f) q (omega (arith, e)) i (quoted-piece d u w f (k.adds u end p (apart-behind x u w 39 s))) (inr refl))

  place-moved : (o : Option ℕ) (n : ℕ) → Some (first_place (moved base o) (base + n)) ≡ moved base (Some (first_place o n))
  place-moved None n = refl
  place-moved (Some place) n = refl

  -- what is open, by the grammar
  pub record Opening (frames : List Frame) (fs : Forms) (d : ℕ) (t : List ℕ) : Type 0 where
    pub first : Option ℕ
    pub first_is : first_list frames ≡ moved base first
    pub is : Open (spot_of frames fs) first d (levels_of frames) t (outer frames fs)

  pub opening-of : (frames : List Frame) (fs : Forms) (d : ℕ) (t : List ℕ) → Built base frames fs d t → Opening frames fs d t
  opening-of frames fs d t (bottom p) = record { first = None; first_is = refl; is = whole p }
  opening-of frames fs d t (behind_list {frames = under} {t = x} {u = u} {fs = hs} q i p) =
      let o = opening-of under hs (suc d) x q in
      record {
        first = Some (first_place o.first (length x));
        first_is = ap (λ (z : Option ℕ). Some (first_place z (base + length x))) o.first_is ∙ place-moved o.first (length x);
        is = list_open o.is i p;
      }
  opening-of frames fs d t (behind_dot {frames = under} {t = x} {u = u} {fs = hs} q i c p a w) =
      let o = opening-of under hs d x q in
      let inside : Open in_list o.first d (levels_of under) x (outer under hs) = subst (λ (z : Spot). Open z o.first d (levels_of under) x (outer under hs)) i o.is in
      record { first = o.first; first_is = o.first_is; is = dot_open inside c p a w }
  opening-of frames fs d t (behind_mark {frames = under} {t = x} {u = u} {fs = hs} q i p) =
      let o = opening-of under hs (suc d) x q in record { first = o.first; first_is = o.first_is; is = mark_open o.is i p }
