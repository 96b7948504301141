-- The machine's steps are those of the grammar, with tokens taken before the byte that ends them.
use Rattle.std.proofs.Common.{◌≡◌, ℕ, ◌+◌, ◌<◌, Bool, true, false, List, [], ◌∷◌, ◌++◌, length, refl, ap, sym, ◌∙◌, subst, arith, append-nil, inl, inr}
use Rattle.std.specs.Prelude.{Option, None, Some, IsTrue, not, ◌⊎◌}
use Rattle.nq_form.specs.Form.{Form, Forms, end, dotted, next, push}
use Rattle.nq_form.specs.Bytes.{is_constituent, is_closed, begins_apart}
use Rattle.nq_form.specs.Grammar.{Items, Seam, Seen, Ending}
use Rattle.nq_form.specs.Kinds.{kind_of}
use Rattle.nq_form.specs.Machine.{Frame, Stack, Mode, word, sharp, line, block, string, State, live, stopped, outer, outer_of, levels_of, judge}
use Rattle.nq_form.proofs.Spelling.{is_false}
use Rattle.nq_form.proofs.Reaching.{constituents-open}
use Rattle.nq_form.proofs.Spelling.{closed-back}
use Rattle.nq_form.proofs.Built.{Built, bottom, behind_list, behind_dot, behind_mark, After}
use Rattle.nq_form.proofs.Settling.{Faulty, IsOver}
use Rattle.nq_form.proofs.Stepping.{Going, nothing, in_token, in_sharp, in_line, in_block, in_string, in_escape, Standing, IsRight, apart-right}
use Rattle.nq_form.proofs.Following.{grow-right, sharp-right, line-right, block-right, string-right}
use Rattle.nq_form.proofs.Stopping.{is_token}
use Rattle.nq_form.proofs.EveryText.{settle-over}
use Rattle.nq_sexp.specs.Modes.{IsWord, ends_token, settled, stepped, word_stepped}
use Rattle.nq_sexp.proofs.Growing.{Ended}

-- what the first byte of the rest may be
abbrev pub RestIs : Option ℕ → List ℕ → Type 0
RestIs None r = r ≡ []
RestIs (Some b) r = (more : List ℕ) × (r ≡ b ∷ more)

-- Tokens that are over were taken.
pub data Ready (base : ℕ) (k : Stack) (t : List ℕ) (following : Option ℕ) : Mode → Type 0 where
  between : After base 500 k t → ends_token following ≡ true → Ready base k t following (word 0 [])
  inside : {m : Mode} → Standing base 500 k m t → (is_token m ≡ false) ⊎ (ends_token following ≡ false) → Ready base k t following m

is-word : (base n : ℕ) (k : Stack) (v : List ℕ) (m : Mode) → Going base k n m v → IsWord m
is-word base n k v m nothing = refl
is-word base n k v m (in_token b w h) = h
is-word base n k v m in_sharp = tt
is-word base n k v m (in_line c h) = tt
is-word base n k v m (in_block c h j) = tt
is-word base n k v m (in_string h q) = tt
is-word base n k v m (in_escape h q) = tt

pub standing-word : (base : ℕ) (k : Stack) (m : Mode) (t : List ℕ) → Standing base 500 k m t → IsWord m
standing-word base k m t s = is-word base (length s.before) k s.begun m s.going

begins-apart : (following : Option ℕ) (r : List ℕ) → ends_token following ≡ true → RestIs following r → IsTrue (begins_apart r)
begins-apart None r e f = subst (λ (z : List ℕ). IsTrue (begins_apart z)) (sym f) refl
begins-apart (Some b) r e f = subst (λ (z : List ℕ). IsTrue (begins_apart z)) (sym f.1) e

abbrev pub rest_of : Option ℕ → List ℕ
rest_of None = []
rest_of (Some b) = b ∷ []

rest-is : (following : Option ℕ) → RestIs following (rest_of following)
rest-is None = refl
rest-is (Some b) = ([], refl)

module _ (base limit : ℕ) (t : List ℕ) (following : Option ℕ) where
  inside-as : (k j : Stack) (m n : Mode) → Standing base 500 k m t → (is_token m ≡ false) ⊎ (ends_token following ≡ false) → live k m ≡ live j n → Ready base j t following n
  inside-as k j m n s c e =
      let stack_is : k ≡ j = cc in
      let mode_is : m ≡ n = cc in
      subst (λ (z : Stack). Ready base z t following n) stack_is (subst (λ (z : Mode). Ready base k t following z) mode_is (inside s c))

  over-ready : (j : Stack) (n : Mode) (s : State) (r : List ℕ) → IsOver base 500 limit t r s → s ≡ live j n → ends_token following ≡ true → Ready base j t following n
  over-ready j n s r o e f =
      let known : IsOver base 500 limit t r (live j n) = subst (λ (z : State). IsOver base 500 limit t r z) e o in
      subst (λ (z : Mode). Ready base j t following z) (sym known.0) (between known.1 f)

  pub settled-ready : (over : Bool) (k j : Stack) (m n : Mode) → ends_token following ≡ over → Standing base 500 k m t → Seen limit t (rest_of following) → settled over k m ≡ live j n → Ready base j t following n
  settled-ready false k j m n f s h e = inside-as k j m n s (inr f) e
  settled-ready true k j (word p w) n f s h e =
      over-ready j n (judge kind_of p k w) (rest_of following) (settle-over base 500 limit k p w t (rest_of following) s (begins-apart following (rest_of following) f (rest-is following)) h) e f
  settled-ready true k j (sharp p) n f s h e = inside-as k j (sharp p) n s (inl refl) e
  settled-ready true k j line n f s h e = inside-as k j line n s (inl refl) e
  settled-ready true k j (block p l q) n f s h e = inside-as k j (block p l q) n s (inl refl) e
  settled-ready true k j (string p b x) n f s h e = inside-as k j (string p b x) n s (inl refl) e

  -- a token that is a fault
  pub settled-fault : (over : Bool) (k : Stack) (m : Mode) (r : List ℕ) (fs : Forms) (e : Ending) → ends_token following ≡ over → Standing base 500 k m t → RestIs following r → Seen limit t r → settled over k m ≡ stopped fs e
      → Faulty base 500 limit (t ++ r) fs e
  settled-fault false k m r fs e f s q h g = cc
  settled-fault true k (word p w) r fs e f s q h g = subst (λ (z : State). IsOver base 500 limit t r z) g (settle-over base 500 limit k p w t r s (begins-apart following r f q) h)
  settled-fault true k (sharp p) r fs e f s q h g = cc
  settled-fault true k line r fs e f s q h g = cc
  settled-fault true k (block p l y) r fs e f s q h g = cc
  settled-fault true k (string p b x) r fs e f s q h g = cc

  -- a form that a token ends stands at the end of a text that may go on
  pub settled-open : (over : Bool) (k j : Stack) (m n : Mode) → Standing base 500 k m t → settled over k m ≡ live j n → (k ≡ j) ⊎ (IsTrue (is_closed t) → ⊥)
  settled-open false k j m n s e = inl cc
  settled-open true k j (word p []) n s e = inl cc
  settled-open true k j (word p (b ∷ w)) n s e = inr (ended s.before s.begun (word p (b ∷ w)) refl s.text s.going)
    where
      ended : (before begun : List ℕ) (m : Mode) → m ≡ word p (b ∷ w) → t ≡ before ++ begun → Going base k (length before) m begun → IsTrue (is_closed t) → ⊥
      ended before begun m i f nothing c = cc
      ended before begun m i f (in_token x v h) c = constituents-open x v h (closed-back before x v (subst (λ (z : List ℕ). IsTrue (is_closed z)) f c))
      ended before begun m i f in_sharp c = cc
      ended before begun m i f (in_line y h) c = cc
      ended before begun m i f (in_block y h l) c = cc
      ended before begun m i f (in_string h q) c = cc
      ended before begun m i f (in_escape h q) c = cc
  settled-open true k j (sharp p) n s e = inl cc
  settled-open true k j line n s e = inl cc
  settled-open true k j (block p l q) n s e = inl cc
  settled-open true k j (string p b x) n s e = inl cc

true-of : (b : Bool) → not b ≡ false → b ≡ true
true-of true e = refl
true-of false e = cc

module _ (base limit : ℕ) (k : Stack) (t : List ℕ) (b : ℕ) (lt : length t < limit) where
  other-right : (m : Mode) → is_token m ≡ false → Standing base 500 k m t → IsRight base 500 limit (t ++ b ∷ []) (stepped (base + length t) k m b)
  other-right (word p w) e s = cc
  other-right (sharp p) e s = sharp-right base 500 limit k t b lt p s
  other-right line e s = line-right base 500 limit k t b lt s
  other-right (block p n q) e s = block-right base 500 limit k t b lt p n q s
  other-right (string p bytes x) e s = string-right base 500 limit k t b lt p bytes x s

  inside-right : (m : Mode) → is_constituent b ≡ true → Standing base 500 k m t → IsRight base 500 limit (t ++ b ∷ []) (stepped (base + length t) k m b)
  inside-right (word p w) c s =
      subst (λ (z : Bool). IsRight base 500 limit (t ++ b ∷ []) (word_stepped z (base + length t) k p w b)) (sym c) (grow-right base 500 limit k t b p w s c)
  inside-right (sharp p) c s = other-right (sharp p) refl s
  inside-right line c s = other-right line refl s
  inside-right (block p n q) c s = other-right (block p n q) refl s
  inside-right (string p bytes x) c s = other-right (string p bytes x) refl s

  pub stepped-right : (m : Mode) → Ready base k t (Some b) m → IsRight base 500 limit (t ++ b ∷ []) (stepped (base + length t) k m b)
  stepped-right m (between a e) =
      let none : is_constituent b ≡ false = is_false (is_constituent b) e in
      subst (λ (z : Bool). IsRight base 500 limit (t ++ b ∷ []) (word_stepped z (base + length t) k 0 [] b)) (sym none) (apart-right base 500 limit k t b a e lt)
  stepped-right m (inside s (inl e)) = other-right m e s
  stepped-right m (inside s (inr e)) = inside-right m (true-of (is_constituent b) e) s

pub ready-levels : (base : ℕ) (k : Stack) (t : List ℕ) (following : Option ℕ) (m : Mode) → Ready base k t following m → k.depth + levels_of k.frames ≡ 500
ready-levels base k t following m (between a e) = a.all
ready-levels base k t following m (inside s c) = (s.after).all

pub push-some : (fs : Forms) (f : Form) → push fs f ≡ end → ⊥
push-some end f e = cc
push-some (dotted g) f e = cc
push-some (next g fs) f e = cc

one-form : (fs : Forms) (f g : Form) → push fs f ≡ next g end → f ≡ g
one-form end f g e = cc
one-form (dotted h) f g e = cc
one-form (next h fs) f g e = let none : push fs f ≡ end = cc in absurd (push-some fs f none)

-- no form stands whole
pub none-whole : (fs : Forms) (k : Stack) (m : Mode) → (outer_of k ≡ fs) ⊎ Ended fs k m → fs ≡ end → (k.frames ≡ [] → k.forms ≡ end) → outer_of k ≡ end
none-whole fs k m g e h = elim g [
  | inl same ↦ same ∙ e
  | inr x ↦ absurd (push-some fs x.form (sym x.forms ∙ h x.outside))
]

-- one form stands whole
pub some-whole : (fs gs : Forms) (k : Stack) (m : Mode) (f : Form) → (outer_of k ≡ fs) ⊎ Ended fs k m → fs ≡ end → k.frames ≡ [] → k.forms ≡ push gs f → (k.forms ≡ next f end) × (m ≡ word 0 [])
some-whole fs gs k m f g e o h = elim g [
  | inl same ↦
      let none : k.forms ≡ end = sym (ap (λ (z : List Frame). outer z k.forms) o) ∙ same ∙ e in
      absurd (push-some gs f (sym h ∙ none))
  | inr x ↦
      let one : k.forms ≡ next x.form end = x.forms ∙ ap (λ (z : Forms). push z x.form) e in
      let same : f ≡ x.form = one-form gs f x.form (sym h ∙ one) in
      (one ∙ ap (λ (z : Form). next z end) (sym same), x.idle_is)
]

pub items-whole : (base : ℕ) (k : Stack) (t : List ℕ) (f : Form) → After base 500 k t → k.frames ≡ [] → k.forms ≡ next f end → Items 500 t (next f end)
items-whole base k t f a o h = subst (λ (z : Forms). Items 500 t z) h (at k.frames k.forms k.depth t a.built o a.all)
  where
    at : (frames : List Frame) (fs : Forms) (d : ℕ) (t : List ℕ) → Built base frames fs d t → frames ≡ [] → d + levels_of frames ≡ 500 → Items 500 t fs
    at frames fs d t (bottom p) e l = let same : d ≡ 500 = omega (arith, l) in subst (λ (z : ℕ). Items z t fs) same p
    at frames fs d t (behind_list q i p) e l = cc
    at frames fs d t (behind_dot q i c p a w) e l = cc
    at frames fs d t (behind_mark q i p) e l = cc

pub standing-after : (base : ℕ) (k : Stack) (m : Mode) (t : List ℕ) → Standing base 500 k m t → m ≡ word 0 [] → After base 500 k t × IsTrue (is_closed t)
standing-after base k m t s e = at s.before s.begun m s.text s.after s.seam s.going e
  where
    at : (before begun : List ℕ) (m : Mode) → t ≡ before ++ begun → After base 500 k before → Seam before begun → Going base k (length before) m begun → m ≡ word 0 [] → After base 500 k t × IsTrue (is_closed t)
    at before begun m i a (inl c) nothing e =
        let same : before ≡ t = sym (append-nil before) ∙ sym i in
        (subst (λ (z : List ℕ). After base 500 k z) same a, subst (λ (z : List ℕ). IsTrue (is_closed z)) same c)
    at before begun m i a (inr c) nothing e = absurd (omega (arith, c.1))
    at before begun m i a c (in_token b w h) e = cc
    at before begun m i a c in_sharp e = cc
    at before begun m i a c (in_line y h) e = cc
    at before begun m i a c (in_block y h j) e = cc
    at before begun m i a c (in_string h q) e = cc
    at before begun m i a c (in_escape h q) e = cc
