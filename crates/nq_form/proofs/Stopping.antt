-- Where a text ends, or stops being read.
use Rattle.std.proofs.Common.{◌≡◌, ℕ, suc, ◌+◌, ◌≤◌, Bool, true, false, List, [], ◌∷◌, ◌++◌, length, refl, sym, ◌∙◌, subst, arith, inl, inr}
use Rattle.std.specs.Prelude.{Option, None, Some}
use Rattle.nq_form.specs.Form.{Forms}
use Rattle.nq_form.specs.Grammar.{Items, outermost, in_list, past_mark, Open, Begun, nothing as nothing_begun, word as word_begun, sharp as sharp_begun, line as line_begun, block as block_begun, string as string_begun, escape as escape_begun, Holds, holds, IsLast, comment, Unfinished, block as block_cut, string as string_cut, escape as escape_cut, Ending, done, fault, too_long, Reads, to_end, unclosed, unfinished, unquoted, sharp as sharp_reads}
use Rattle.nq_form.specs.Kinds.{kind_of}
use Rattle.nq_form.specs.Machine.{Frame, Stack, Mode, word, live, outer, outer_of, first_list, spot_of, levels_of, mark_end, end_of, cut_off, finish}
use Rattle.nq_form.proofs.Standing.{open-outside}
use Rattle.nq_form.proofs.Built.{Built, bottom, behind_list, behind_dot, behind_mark, After, opening-of}
use Rattle.nq_form.proofs.Commented.{comment-cut}
use Rattle.nq_form.proofs.Settling.{Faulty}
use Rattle.nq_form.proofs.Stepping.{Going, nothing, in_token, in_sharp, in_line, in_block, in_string, in_escape, Standing, none-first, some-first}

-- the whole text reads so, where it ends there
abbrev pub Comes : ℕ → ℕ → ℕ → List ℕ → Forms → Ending → Type 0
Comes base levels limit text fs done = Reads levels limit text fs done
Comes base levels limit text fs (fault code place) = Faulty base levels limit text fs (fault code place)
Comes base levels limit text fs too_long = ⊥

-- a token, which isn't whole before the byte behind it is known
abbrev pub is_token : Mode → Bool
is_token (word p w) = true
is_token _ = false

module _ (base levels limit : ℕ) where
  no_list-in : (under : List Frame) (hs : Forms) (d : ℕ) (x : List ℕ) → Built base under hs d x → spot_of under hs ≡ in_list → None ≡ first_list under → ⊥
  no_list-in under hs d x q i e =
      let o = opening-of base under hs d x q in
      let none : o.first ≡ None = none-first base levels limit o.first (e ∙ o.first_is) in
      elim (open-outside (spot_of under hs) o.first d (levels_of under) x (outer under hs) o.is none) [
        | inl h ↦ let no : in_list ≡ outermost = sym i ∙ h in cc
        | inr h ↦ let no : in_list ≡ past_mark = sym i ∙ h in cc
      ]

  -- the end where no list is open
  mark_end-right : (frames : List Frame) (fs : Forms) (d : ℕ) (t v : List ℕ) → Built base frames fs d t → d + levels_of frames ≡ levels → None ≡ first_list frames → IsLast v → length (t ++ v) ≤ limit
      → Comes base levels limit (t ++ v) (mark_end frames fs).forms (mark_end frames fs).ending
  mark_end-right frames fs d t v (bottom p) e n l room = to_end (subst (λ (z : ℕ). Items z t fs) (omega arith) p) l room
  mark_end-right frames fs d t v (behind_list q i p) e n l room = cc
  mark_end-right frames fs d t v (behind_dot {frames = under} {t = x} {fs = hs} q i c p a w) e n l room = absurd (no_list-in under hs d x q i n)
  mark_end-right frames fs d t v (behind_mark {frames = under} {t = x} {u = u} {fs = hs} q i p) e n l room =
      let o = opening-of base under hs (suc d) x q in
      let outside : Open (spot_of under hs) None (suc d) (levels_of under) x (outer under hs) =
      subst (λ (z : Option ℕ). Open (spot_of under hs) z (suc d) (levels_of under) x (outer under hs)) (none-first base levels limit o.first (n ∙ o.first_is)) o.is in
      (length x, refl, unquoted outside e p l room)

  pub end-right : (g : Option ℕ) (k : Stack) (t v : List ℕ) → g ≡ first_list k.frames → After base levels k t → IsLast v → length (t ++ v) ≤ limit
      → Comes base levels limit (t ++ v) (end_of g k).forms (end_of g k).ending
  end-right None k t v e a l room = mark_end-right k.frames k.forms k.depth t v a.built a.all e l room
  end-right (Some place) k t v e a l room =
      let o = opening-of base k.frames k.forms k.depth t a.built in
      let first = some-first base levels limit place o.first (e ∙ o.first_is) in
      let inside : Open (spot_of k.frames k.forms) (Some first.0) k.depth (levels_of k.frames) t (outer_of k) =
      subst (λ (z : Option ℕ). Open (spot_of k.frames k.forms) z k.depth (levels_of k.frames) t (outer_of k)) first.1 o.is in
      (first.0, first.2, unclosed inside a.all (inl l) room)

  -- the end in a comment or a string
  cut-right : (g : Option ℕ) (k : Stack) (t v : List ℕ) → g ≡ first_list k.frames → After base levels k t → Unfinished (spot_of k.frames k.forms) v → length (t ++ v) ≤ limit
      → Comes base levels limit (t ++ v) (cut_off g (base + length t) k).forms (cut_off g (base + length t) k).ending
  cut-right None k t v e a u room =
      let o = opening-of base k.frames k.forms k.depth t a.built in
      let outside : Open (spot_of k.frames k.forms) None k.depth (levels_of k.frames) t (outer_of k) =
      subst (λ (z : Option ℕ). Open (spot_of k.frames k.forms) z k.depth (levels_of k.frames) t (outer_of k)) (none-first base levels limit o.first (e ∙ o.first_is)) o.is in
      (length t, refl, unfinished outside a.all u room)
  cut-right (Some place) k t v e a u room =
      let o = opening-of base k.frames k.forms k.depth t a.built in
      let first = some-first base levels limit place o.first (e ∙ o.first_is) in
      let inside : Open (spot_of k.frames k.forms) (Some first.0) k.depth (levels_of k.frames) t (outer_of k) =
      subst (λ (z : Option ℕ). Open (spot_of k.frames k.forms) z k.depth (levels_of k.frames) t (outer_of k)) first.1 o.is in
      (first.0, first.2, unclosed inside a.all (inr u) room)

  -- the end, where no token is last
  pub finish-right : (k : Stack) (m : Mode) (t : List ℕ) → Standing base levels k m t → is_token m ≡ false → length t ≤ limit → Comes base levels limit t (finish kind_of (live k m)).forms (finish kind_of (live k m)).ending
  finish-right k m t s other room =
      subst (λ (z : List ℕ). Comes base levels limit z (finish kind_of (live k m)).forms (finish kind_of (live k m)).ending) (sym s.text)
      (at s.before s.begun m s.after s.going other (subst (λ (z : List ℕ). length z ≤ limit) s.text room))
    where
      at : (before begun : List ℕ) (m : Mode) → After base levels k before → Going base k (length before) m begun → is_token m ≡ false → length (before ++ begun) ≤ limit
          → Comes base levels limit (before ++ begun) (finish kind_of (live k m)).forms (finish kind_of (live k m)).ending
      at before begun m a nothing other room = cc
      at before begun m a (in_token b w h) other room = cc
      at before begun m a in_sharp other room =
          let o = opening-of base k.frames k.forms k.depth before a.built in (length before, refl, sharp_reads [] o.is a.all refl (room, inl refl))
      at before begun m a (in_line c h) other room = end-right (first_list k.frames) k before (59 ∷ c) refl a (comment c h) room
      at before begun m a (in_block {m = n} {q = q} c h j) other room = cut-right (first_list k.frames) k before (35 ∷ 124 ∷ c) refl a (block_cut (comment-cut n q c j)) room
      at before begun m a (in_string {s = s} h q) other room = cut-right (first_list k.frames) k before (34 ∷ s) refl a (string_cut h q) room
      at before begun m a (in_escape {s = s} h q) other room = cut-right (first_list k.frames) k before (34 ∷ s ++ 92 ∷ []) refl a (escape_cut h q) room

  -- more may follow
  pub standing-holds : (k : Stack) (m : Mode) (t : List ℕ) → Standing base levels k m t → Holds levels t (outer_of k)
  standing-holds k m t s =
      let o = opening-of base k.frames k.forms k.depth s.before (s.after).built in
      subst (λ (z : List ℕ). Holds levels z (outer_of k)) (sym s.text) (holds o.is (s.after).all s.seam (begun (length s.before) s.begun m s.going))
    where
      begun : (n : ℕ) (v : List ℕ) (m : Mode) → Going base k n m v → Begun (spot_of k.frames k.forms) v
      begun n v m nothing = nothing_begun
      begun n v m (in_token b w h) = word_begun (b ∷ w) h
      begun n v m in_sharp = sharp_begun
      begun n v m (in_line c h) = line_begun c h
      begun n v m (in_block {m = l} {q = q} c h j) = block_begun (comment-cut l q c j)
      begun n v m (in_string h q) = string_begun h q
      begun n v m (in_escape h q) = escape_begun h q
