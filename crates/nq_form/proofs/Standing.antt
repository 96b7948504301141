-- Where the machine stands behind a text that may go on.
use Rattle.std.proofs.Common.{◌≡◌, ℕ, suc, ◌+◌, ◌-◌, ◌<◌, ◌≤◌, List, [], ◌∷◌, ◌++◌, length, refl, ap, sym, ◌∙◌, subst, arith, inl, inr}
use Rattle.std.specs.Prelude.{Option, None, Some, IsTrue, ◌⊎◌}
use Rattle.std.proofs.lemmas.Grind.{common_steps}
use Rattle.nq_form.specs.Form.{Form, Forms, end, next}
use Rattle.nq_form.specs.Bytes.{is_closed, begins_apart}
use Rattle.nq_form.specs.Token.{Token}
use Rattle.nq_form.specs.Grammar.{Items, Spot, outermost, in_list, past_mark, takes_form, takes_dot, first_place, Open, whole, list as list_open, dot as dot_open, mark as mark_open}
use Rattle.nq_form.proofs.Spelling.{closed-back}
use Rattle.nq_form.specs.Kinds.{Kind, single_dot}
use Rattle.nq_form.specs.Machine.{Stack, State, live, stopped, idle, list, dot, mark, opened_on, takes, spot_of, first_list, outer_of}
use Rattle.nq_form.proofs.Giving.{give_all, TakesAll, items-proper, give-list, list-takes_all, list_on, dot_on, top_of, top-takes_all, give-top}
use Rattle.nq_form.proofs.Running.{run-nothing}
use Rattle.nq_form.proofs.Reaching.{IsToken, Reach, reach-as, reach-behind, reach-closed, reach-seam, run-open, reach-dot, reach-items}

pub record Stands (s : Spot) (o : Option ℕ) (d : ℕ) (fs : Forms) (k : Stack) : Type 0 where
  pub spot : spot_of k.frames k.forms ≡ s
  pub first : first_list k.frames ≡ o
  pub depth : k.depth ≡ d
  pub forms : outer_of k ≡ fs

-- outside all lists, a text stands outside all that is open or behind a quote mark
pub open-outside : (s : Spot) (o : Option ℕ) (d n : ℕ) (t : List ℕ) (fs : Forms) → Open s o d n t fs → o ≡ None → (s ≡ outermost) ⊎ (s ≡ past_mark)
open-outside s o d n t fs (whole p) e = inl refl
open-outside s o d n t fs (list_open q h p) e = cc
open-outside s o d n t fs (dot_open {t = u} q c p a i) e = absurd (elim (open-outside in_list o d n u fs q e) [ inl h ↦ cc | inr h ↦ cc ])
open-outside s o d n t fs (mark_open q h p) e = inr refl

pub outside-takes : (s : Spot) → (s ≡ outermost) ⊎ (s ≡ past_mark) → IsTrue (takes_form s)
outside-takes s (inl e) = ap takes_form e
outside-takes s (inr e) = ap takes_form e

stack_of : Stack → State → Stack
stack_of j (live k m) = k
stack_of j (stopped fs e) = j

module _ (kind_of : List ℕ → Kind) (limit : ℕ) (named : (w : List ℕ) (f : Form) → Token w f → IsToken kind_of w f) (dot_kind : kind_of (46 ∷ []) ≡ single_dot) where
  -- no bytes give nothing
  given-nothing : (at d : ℕ) (k : Stack) (fs : Forms) → Items d [] fs → d ≤ k.depth → TakesAll k fs → at ≤ limit → k ≡ give_all k fs
  unfolding stack_of
  given-nothing at d k fs p low all h =
      let r = reach-items kind_of limit named dot_kind at d k [] fs p low all (grind (arith, common_steps)) in
      ap (λ (z : State). stack_of k z) (sym (run-nothing kind_of limit at (idle k)) ∙ r.apart refl)

  pub items-nothing : (d : ℕ) (fs : Forms) → Items d [] fs → fs ≡ end
  items-nothing d fs p =
      let same : top_of end d ≡ top_of fs d = given-nothing 0 d (top_of end d) fs p (omega arith) (top-takes_all fs end d) (omega arith) ∙ give-top fs d (items-proper d [] fs p) in
      sym (ap (λ (z : Stack). z.forms) same)

  abbrev OneOrNone : Forms → Type 0
  OneOrNone gs = (gs ≡ end) ⊎ ((f : Form) × (gs ≡ next f end))

  pub dot-given : (gs : Forms) (at d : ℕ) (k : Stack) → OneOrNone gs → give_all (opened_on dot at k d) gs ≡ dot_on k.forms at k.frames gs d
  dot-given gs at d k (inl e) = ap (λ (z : Forms). give_all (opened_on dot at k d) z) e ∙ ap (λ (z : Forms). dot_on k.forms at k.frames z d) (sym e)
  dot-given gs at d k (inr e) = ap (λ (z : Forms). give_all (opened_on dot at k d) z) e.1 ∙ ap (λ (z : Forms). dot_on k.forms at k.frames z d) (sym e.1)

  dot-takes : (gs : Forms) (at d : ℕ) (k : Stack) → OneOrNone gs → TakesAll (opened_on dot at k d) gs
  dot-takes gs at d k (inl e) = subst (λ (z : Forms). TakesAll (opened_on dot at k d) z) (sym e) tt
  dot-takes gs at d k (inr e) = subst (λ (z : Forms). TakesAll (opened_on dot at k d) z) (sym e.1) (refl, tt)

  pub reach-past_dot : (at d : ℕ) (k : Stack) (u : List ℕ) (gs : Forms) → IsTrue (takes_dot (spot_of k.frames k.forms)) → Items d u gs → d ≤ k.depth → IsTrue (begins_apart u) → OneOrNone gs → at + length (46 ∷ u) ≤ limit
      → Reach kind_of limit at (idle k) (46 ∷ u) (dot_on k.forms at k.frames gs k.depth)
  reach-past_dot at d k [] gs h p low a e room =
      let lt : at < limit = grind (arith, common_steps) in
      reach-as kind_of limit at (idle k) (46 ∷ []) _ _ (given-nothing at d (opened_on dot at k k.depth) gs p low (dot-takes gs at k.depth k e) (omega arith) ∙ dot-given gs at k.depth k e)
      (reach-dot kind_of limit at k dot_kind h lt)
  reach-past_dot at d k (b ∷ x) gs h p low a e room =
      let lt : at < limit = grind (arith, common_steps) in
      let inside : at + 1 + length (b ∷ x) ≤ limit = grind (arith, common_steps) in
      let whole_room : at + length ((46 ∷ []) ++ b ∷ x) ≤ limit = grind (arith, common_steps) in
      reach-behind kind_of limit at (at + 1) (idle k) (idle (opened_on dot at k k.depth)) (46 ∷ b ∷ x) (b ∷ x) _
      (reach-seam kind_of limit at (idle k) (46 ∷ []) (opened_on dot at k k.depth) (b ∷ x) (reach-dot kind_of limit at k dot_kind h lt) (inr (a, omega arith)) whole_room) (λ c. c)
      (reach-as kind_of limit (at + 1) _ (b ∷ x) _ _ (dot-given gs at k.depth k e)
      (reach-items kind_of limit named dot_kind (at + 1) d (opened_on dot at k k.depth) (b ∷ x) gs p low (dot-takes gs at k.depth k e) inside))

  behind-seam : (t : List ℕ) (b : ℕ) (u : List ℕ) → IsTrue (is_closed (t ++ b ∷ u)) → IsTrue (is_closed u)
  behind-seam t b [] h = refl
  behind-seam t b (c ∷ u) h = closed-back t b (c ∷ u) h

  pub reach-past_mark : (at : ℕ) (s : State) (t u : List ℕ) (k : Stack) (d : ℕ) → Reach kind_of limit at s t k → IsTrue (takes k) → suc d ≤ k.depth → Items d u end → at + length (t ++ 39 ∷ u) ≤ limit
      → Reach kind_of limit at s (t ++ 39 ∷ u) (opened_on mark (at + length t) k (k.depth - 1))
  reach-past_mark at s t u k d r h deep p room =
      let lt : at + length t < limit = grind (arith, common_steps) in
      let behind : at + length t + 1 + length u ≤ limit = grind (arith, common_steps) in
      reach-behind kind_of limit at (at + length t + 1) s (idle (opened_on mark (at + length t) k (k.depth - 1))) (t ++ 39 ∷ u) u _
      (reach-seam kind_of limit at s t k (39 ∷ u) r (inr (refl, omega arith)) room ∙ run-open kind_of limit mark 39 (at + length t) k u lt h (omega (arith, deep)) (inr (refl, refl))) (behind-seam t 39 u)
      (reach-items kind_of limit named dot_kind (at + length t + 1) d (opened_on mark (at + length t) k (k.depth - 1)) u end p (omega (arith, deep)) tt behind)

  pub reach-open : (levels : ℕ) (s : Spot) (o : Option ℕ) (d n : ℕ) (t : List ℕ) (fs : Forms) → Open s o d n t fs → d + n ≡ levels → length t ≤ limit
      → (k : Stack) × Reach kind_of limit 0 (idle (top_of end levels)) t k × Stands s o d fs k
  reach-open levels s o d n t fs (whole p) e room = (
    top_of fs levels,
    reach-as kind_of limit 0 _ t _ _ (give-top fs levels (items-proper d t fs p)) (reach-items kind_of limit named dot_kind 0 d (top_of end levels) t fs p (omega arith) (top-takes_all fs end levels) (omega arith)),
    record { spot = refl; first = refl; depth = omega arith; forms = refl },
  )
  reach-open levels s o d n t fs (list_open {s = r} {o = q} {n = m} {t = u} {u = v} {gs = gs} i h p) e room =
      let short : length u ≤ limit = grind (arith, common_steps) in
      let lt : 0 + length u < limit = grind (arith, common_steps) in
      let behind : 0 + length u + 1 + length v ≤ limit = grind (arith, common_steps) in
      let all_room : 0 + length (u ++ 40 ∷ v) ≤ limit = omega arith in
      let here : 0 + length u ≡ length u = omega arith in
      let outer = reach-open levels r q (suc d) m u fs i (omega arith) short in
      let k : Stack = outer.0 in
      let depth : k.depth ≡ suc d = (outer.2).depth in
      let opened : Stack = opened_on list (0 + length u) k (k.depth - 1) in (
        list_on k.forms (0 + length u) k.frames gs (k.depth - 1),
        reach-behind kind_of limit 0 (0 + length u + 1) _ (idle opened) (u ++ 40 ∷ v) v _
            (reach-seam kind_of limit 0 _ u k (40 ∷ v) outer.1 (inr (refl, omega arith)) all_room
            ∙ run-open kind_of limit list 40 (0 + length u) k v lt (ap takes_form (outer.2).spot ∙ h) (omega (arith, depth)) (inl (refl, refl))) (behind-seam u 40 v)
            (reach-as kind_of limit (0 + length u + 1) (idle opened) v _ _ (give-list gs k.forms (0 + length u) k.frames (k.depth - 1) (items-proper d v gs p))
            (reach-items kind_of limit named dot_kind (0 + length u + 1) d opened v gs p (omega (arith, depth)) (list-takes_all gs k.forms (0 + length u) k.frames end (k.depth - 1)) behind)),
        record {
          spot = refl;
          first = ap (λ (z : Option ℕ). Some (first_place z (0 + length u))) (outer.2).first ∙ ap (λ (z : ℕ). Some (first_place q z)) here;
          depth = omega (arith, depth);
          forms = (outer.2).forms;
        },
      )
  reach-open levels s o d n t fs (mark_open {s = r} {n = m} {t = u} {u = v} i h p) e room =
      let short : length u ≤ limit = grind (arith, common_steps) in
      let all_room : 0 + length (u ++ 39 ∷ v) ≤ limit = omega arith in
      let outer = reach-open levels r o (suc d) m u fs i (omega arith) short in
      let k : Stack = outer.0 in
      let depth : k.depth ≡ suc d = (outer.2).depth in (
        opened_on mark (0 + length u) k (k.depth - 1),
        reach-past_mark 0 _ u v k d outer.1 (ap takes_form (outer.2).spot ∙ h) (omega (arith, depth)) p all_room,
        record { spot = refl; first = (outer.2).first; depth = omega (arith, depth); forms = (outer.2).forms },
      )
  reach-open levels s o d n t fs (dot_open {t = u} {u = v} {gs = gs} i c p a w) e room =
      let short : length u ≤ limit = grind (arith, common_steps) in
      let behind : 0 + length u + length (46 ∷ v) ≤ limit = grind (arith, common_steps) in
      let outer = reach-open levels in_list o d n u fs i e short in
      let k : Stack = outer.0 in
      let depth : k.depth ≡ d = (outer.2).depth in (
        dot_on k.forms (0 + length u) k.frames gs k.depth,
        reach-behind kind_of limit 0 (0 + length u) _ (idle k) (u ++ 46 ∷ v) (46 ∷ v) _ (reach-closed kind_of limit 0 _ u k (46 ∷ v) outer.1 c) (closed-back u 46 v)
            (reach-past_dot (0 + length u) d k v gs (ap takes_dot (outer.2).spot) p (omega (arith, depth)) a w behind),
        record { spot = refl; first = (outer.2).first; depth = depth; forms = (outer.2).forms },
      )
