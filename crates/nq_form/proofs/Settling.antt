-- A token that is ended: the form that it is, a dot, or a fault.
use Rattle.std.proofs.Common.{◌≡◌, ℕ, ◌+◌, Bool, true, false, List, [], ◌∷◌, ◌++◌, length, refl, ap, sym, ◌∙◌, subst, arith, append_assoc, inl, inr}
use Rattle.std.specs.Prelude.{IsTrue, not}
use Rattle.std.specs.List.{list_all}
use Rattle.nq_form.specs.Form.{Form, Forms, end, dotted, next}
use Rattle.nq_form.specs.Bytes.{is_constituent, is_closed, begins_apart}
use Rattle.nq_form.specs.Token.{Token, IsWide, IsBad}
use Rattle.nq_form.specs.Grammar.{Items, none, token, Spot, in_list, takes_form, takes_dot, Open, Judged, bad, too_wide, misplaced, two_tails, Ending, done, fault, too_long, Seen, Reads, judged as judged_reads}
use Rattle.nq_form.specs.Kinds.{Kind, form, single_dot, too_wide as wide_kind, no_token, kind_of}
use Rattle.nq_form.specs.Machine.{list, dot, Frame, Stack, word, State, live, stopped, outer, outer_of, spot_of, top_place, levels_of, takes, given, dotted_at, judged, judge}
use Rattle.nq_form.proofs.Spelling.{not_both, and_front, closed-back, closed-inner}
use Rattle.nq_form.proofs.Naming.{named, wide_run, kind-sound, Sound, a_form, a_dot, a_wide, none as no_kind}
use Rattle.nq_form.proofs.Built.{Built, bottom, behind_list, behind_dot, behind_mark, Apart, Piece, After, after-as, built-give, opening-of}

-- a fault of the whole text, with its place counted from so many bytes before
abbrev pub Faulty : ℕ → ℕ → ℕ → List ℕ → Forms → Ending → Type 0
Faulty base levels limit text fs done = ⊥
Faulty base levels limit text fs too_long = ⊥
Faulty base levels limit text fs (fault code place) = (k : ℕ) × (place ≡ base + k) × Reads levels limit text fs (fault code k)

-- Behind the text the token is over.
abbrev pub IsOver : ℕ → ℕ → ℕ → List ℕ → List ℕ → State → Type 0
IsOver base levels limit t more (live k m) = (m ≡ word 0 []) × After base levels k t
IsOver base levels limit t more (stopped fs e) = Faulty base levels limit (t ++ more) fs e

-- a dot and its form stand at the end of the text
pub record Tailed (base d : ℕ) (frames : List Frame) (fs : Forms) (t : List ℕ) : Type 0 where
  pub under : List Frame
  pub forms : Forms
  pub before : List ℕ
  pub tail : List ℕ
  pub form_is : Form
  pub text : t ≡ before ++ 46 ∷ tail
  pub built : Built base under forms d before
  pub spot : spot_of under forms ≡ in_list
  pub levels : levels_of under ≡ levels_of frames
  pub closed : IsTrue (is_closed before)
  pub items : Items d tail (next form_is end)
  pub apart : IsTrue (begins_apart tail)
  pub place : top_place frames ≡ base + length before
  pub outside : outer frames fs ≡ outer under forms

spot_in-takes : (fs : Forms) → takes_form (spot_of (record { opened = list; forms = end; place = 0 } ∷ []) fs) ≡ false → ⊥
spot_in-takes end h = cc
spot_in-takes (dotted f) h = cc
spot_in-takes (next f fs) h = cc

pub tails-of : (base : ℕ) (frames : List Frame) (fs : Forms) (d : ℕ) (t : List ℕ) → Built base frames fs d t → takes_form (spot_of frames fs) ≡ false → Tailed base d frames fs t
tails-of base frames fs d t (bottom p) h = cc
tails-of base frames fs d t (behind_list q i p) h = absurd (spot_in-takes fs h)
tails-of base frames fs d t (behind_mark q i p) h = cc
tails-of base frames fs d t (behind_dot {frames = under} {t = x} {u = u} {fs = hs} q i c p a (inl e)) h =
    let same : true ≡ false = ap (λ (z : Forms). takes_form (spot_of (record { opened = dot; forms = hs; place = 0 } ∷ []) z)) (sym e) ∙ h in
    cc
tails-of base frames fs d t (behind_dot {frames = under} {t = x} {u = u} {fs = hs} q i c p a (inr e)) h = record {
  under = under;
  forms = hs;
  before = x;
  tail = u;
  form_is = e.0;
  text = refl;
  built = q;
  spot = i;
  levels = refl;
  closed = c;
  items = subst (λ (z : Forms). Items d u z) e.1 p;
  apart = a;
  place = refl;
  outside = refl;
}

module _ (base levels limit : ℕ) where
  token-piece : (d : ℕ) (b : ℕ) (w : List ℕ) (g : Form) → IsTrue (list_all is_constituent (b ∷ w)) → Token (b ∷ w) g → Piece d (b ∷ w) g
  token-piece d b w g a i = record { adds = λ t fs p s. token (b ∷ w) p (closed t s) i }
    where
      closed : (t : List ℕ) → Apart t (b ∷ w) → IsTrue (is_closed t)
      closed t (inl c) = c
      closed t (inr k) = absurd (not_both (is_constituent b) (and_front _ _ a) k)

  token-of : (w : List ℕ) (g : Form) → kind_of w ≡ form g → Token w g
  token-of w g e = of (kind_of w) (kind-sound w) e
    where
      of : (k : Kind) → Sound w k → k ≡ form g → Token w g
      of k (a_form {f = f} i) h = let same : f ≡ g = cc in subst (λ (z : Form). Token w z) same i
      of k (a_dot i) h = cc
      of k (a_wide i) h = cc
      of k no_kind h = cc

  wide-of : (w : List ℕ) → kind_of w ≡ wide_kind → IsWide w
  wide-of w e = of (kind_of w) (kind-sound w) e
    where
      of : (k : Kind) → Sound w k → k ≡ wide_kind → IsWide w
      of k (a_form i) h = cc
      of k (a_dot i) h = cc
      of k (a_wide i) h = i
      of k no_kind h = cc

  dot-of : (w : List ℕ) → kind_of w ≡ single_dot → w ≡ 46 ∷ []
  dot-of w e = of (kind_of w) (kind-sound w) e
    where
      of : (k : Kind) → Sound w k → k ≡ single_dot → w ≡ 46 ∷ []
      of k (a_form i) h = cc
      of k (a_dot i) h = i
      of k (a_wide i) h = cc
      of k no_kind h = cc

  bad-of : (b : ℕ) (w : List ℕ) → IsTrue (list_all is_constituent (b ∷ w)) → kind_of (b ∷ w) ≡ no_token → IsBad (b ∷ w)
  bad-of b w a e = record {
    constituents = a;
    some = omega arith;
    no_form = λ f i. let r = named (b ∷ w) f i in let same : form f ≡ no_token = sym r.kind ∙ ap kind_of (sym r.bytes) ∙ e in cc;
    not_wide = λ i. let r = wide_run (b ∷ w) i in let same : wide_kind ≡ no_token = sym r.kind_is ∙ ap kind_of (sym r.bytes) ∙ e in cc;
    no_dot = λ h. let same : single_dot ≡ no_token = sym (ap kind_of h) ∙ e in cc;
  }

  -- a fault of a token behind what is open
  judged-fault : (k : Stack) (t w more : List ℕ) (code place : ℕ) → After base levels k t → IsTrue (is_closed t) → Judged (spot_of k.frames k.forms) k.depth w code → IsTrue (begins_apart more) → Seen limit (t ++ w) more → place ≡ base + length t
      → Faulty base levels limit ((t ++ w) ++ more) (outer_of k) (fault code place)
  judged-fault k t w more code place a c j h s e =
      let o = opening-of base k.frames k.forms k.depth t a.built in (length t, e, judged_reads more o.is a.all c j h s)

  dot-spot : (s : Spot) → takes_dot s ≡ true → s ≡ in_list
  dot-spot s h = at s h
    where
      at : (s : Spot) → takes_dot s ≡ true → s ≡ in_list
      at in_list h = refl
      at _ h = cc

  seen-as : (t u more : List ℕ) → t ≡ u → Seen limit t more → Seen limit u more
  seen-as t u more e s = subst (λ (z : List ℕ). Seen limit z more) e s

  module _ (k : Stack) (t : List ℕ) (b : ℕ) (w more : List ℕ) (af : After base levels k t) (c : IsTrue (is_closed t)) (a : IsTrue (list_all is_constituent (b ∷ w))) (h : IsTrue (begins_apart more)) (s : Seen limit (t ++ b ∷ w) more) where
    given-over : (free : Bool) (g : Form) → takes k ≡ free → Token (b ∷ w) g → IsOver base levels limit (t ++ b ∷ w) more (given free k g)
    given-over true g e i = (refl, built-give base levels k.frames k.forms k.depth t (b ∷ w) g af.built af.all e (token-piece k.depth b w g a i) (inl c))
    given-over false g e i =
        let l = tails-of base k.frames k.forms k.depth t af.built e in
        let o = opening-of base l.under l.forms k.depth l.before l.built in
        let open_in : Open in_list o.first k.depth (levels_of l.under) l.before (outer l.under l.forms) = subst (λ (z : Spot). Open z o.first k.depth (levels_of l.under) l.before (outer l.under l.forms)) l.spot o.is in
        let closed_all : IsTrue (is_closed (l.before ++ 46 ∷ l.tail)) = subst (λ (z : List ℕ). IsTrue (is_closed z)) l.text c in
        let closed_tail : IsTrue (is_closed l.tail) = closed-inner 46 l.tail (closed-back l.before 46 l.tail closed_all) in
        let joined : t ++ b ∷ w ≡ l.before ++ (46 ∷ l.tail ++ b ∷ w) = ap (λ (z : List ℕ). z ++ b ∷ w) l.text ∙ append_assoc l.before (46 ∷ l.tail) (b ∷ w) in
        let room : k.depth + levels_of l.under ≡ levels = omega (arith, af.all, l.levels) in
        let reads : Reads levels limit ((l.before ++ (46 ∷ l.tail ++ b ∷ w)) ++ more) (outer l.under l.forms) (fault 2 (length l.before)) =
        judged_reads more open_in room l.closed (two_tails (b ∷ w) l.items l.apart closed_tail i) h (seen-as _ _ more joined s) in (
          length l.before,
          l.place,
          subst (λ (z : Forms). Reads levels limit ((t ++ b ∷ w) ++ more) z (fault 2 (length l.before))) (sym l.outside)
              (subst (λ (z : List ℕ). Reads levels limit (z ++ more) (outer l.under l.forms) (fault 2 (length l.before))) (sym joined) reads),
        )

    dotted-over : (free : Bool) → takes_dot (spot_of k.frames k.forms) ≡ free → (b ∷ w) ≡ 46 ∷ [] → IsOver base levels limit (t ++ b ∷ w) more (dotted_at free (base + length t) k)
    dotted-over true e i =
        (refl, after-as base levels _ _ _ (ap (λ (z : List ℕ). t ++ z) (sym i)) (record { built = behind_dot af.built (dot-spot (spot_of k.frames k.forms) e) c none refl (inl refl); all = af.all }))
    dotted-over false e i =
        judged-fault k t (b ∷ w) more 2 (base + length t) af c (subst (λ (z : List ℕ). Judged (spot_of k.frames k.forms) k.depth z 2) (sym i) (misplaced (ap not e))) h s refl

    judged-over : (kind : Kind) → kind_of (b ∷ w) ≡ kind → IsOver base levels limit (t ++ b ∷ w) more (judged kind (base + length t) k)
    judged-over (form g) e = given-over (takes k) g refl (token-of (b ∷ w) g e)
    judged-over single_dot e = dotted-over (takes_dot (spot_of k.frames k.forms)) refl (dot-of (b ∷ w) e)
    judged-over wide_kind e = judged-fault k t (b ∷ w) more 3 (base + length t) af c (too_wide (wide-of (b ∷ w) e)) h s refl
    judged-over no_token e = judged-fault k t (b ∷ w) more 2 (base + length t) af c (bad (bad-of b w a e)) h s refl

    -- a token that is over
    pub judge-over : IsOver base levels limit (t ++ b ∷ w) more (judge kind_of (base + length t) k (b ∷ w))
    judge-over = judged-over (kind_of (b ∷ w)) refl
