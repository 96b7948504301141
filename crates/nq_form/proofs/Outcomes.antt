-- A text that is taken byte by byte has one outcome, and the grammar gives no other.
use Rattle.std.proofs.Common.{◌≡◌, ℕ, suc, ◌+◌, ◌-◌, ◌<◌, ◌≤◌, Bool, true, false, List, [], ◌∷◌, ◌++◌, length, refl, ap, ◌∙◌, arith, append_assoc, append-nil, inl, inr, nat_eq}
use Rattle.std.specs.Prelude.{Option, None, Some, IsTrue, ◌⊎◌, nat_le}
use Rattle.std.proofs.lemmas.Grind.{common_steps}
use Rattle.std.proofs.lemmas.Bool.Decides.{nat_tests}
use Rattle.nq_form.specs.Form.{Form, Forms, end}
use Rattle.nq_form.specs.Bytes.{begins_apart, begins_no_bar}
use Rattle.nq_form.specs.Token.{Token, IsWide, IsBad}
use Rattle.nq_form.specs.Grammar.{Spot, outermost, past_mark, takes_form, Begun, nothing, word as word_begun, line as line_begun, holds, IsLast, bare, comment, Unfinished, block, string, escape, Ending, fault, too_long, Reads, to_end, unclosed, unfinished, unquoted, unopened, unmarked, stopped as stopped_reads, judged as judged_reads, sharp as sharp_reads, past}
use Rattle.nq_form.proofs.Spelling.{is_false}
use Rattle.nq_form.specs.Kinds.{Kind, single_dot, too_wide as wide_kind, no_token}
use Rattle.nq_form.specs.Machine.{mark, Stack, Mode, word, sharp, line, block as block_mode, string as string_mode, State, live, stopped, idle, outer_of, takes, opening, opened_on, sharp_step, apart, limited, run, first_list, spot_of, Outcome, end_of, cut_off, ended, finish}
use Rattle.nq_form.proofs.Giving.{top_of, top-takes_all, give-top, items-proper}
use Rattle.nq_form.proofs.Running.{run-nothing, run-first, run-append, run-stopped, run-go, run-apart, run-idle, run-word, run-line, run-quotes, run-commenting, no_pair-0}
use Rattle.nq_form.proofs.Reaching.{IsToken, Reach, reach-as, reach-apart, reach-closed, reach-seam, reach-items}
use Rattle.nq_form.proofs.Standing.{open-outside, outside-takes, reach-open, reach-past_mark}
use Rattle.nq_form.proofs.Faulting.{IsRun, Fails, stops-apart, judged-fails, close-outside, close-marked}

abbrev pub outcome : Forms → Ending → Outcome
outcome fs e = record { forms = fs; ending = e }

outcome_as : (fs gs : Forms) (e f : Ending) → fs ≡ gs → e ≡ f → outcome fs e ≡ outcome gs f
outcome_as fs gs e f p q = ap (λ (z : Forms). outcome z e) p ∙ ap (λ (z : Ending). outcome gs z) q

past-limit : (limit at : ℕ) → limit ≤ at → nat_le limit at ≡ true
past-limit limit at h = grind (arith, nat_tests)

module _ (kind_of : List ℕ → Kind) (limit : ℕ) where
  -- the end, perhaps in the comment of the last line
  last-finish : (at : ℕ) (s : State) (t v : List ℕ) (k : Stack) → Reach kind_of limit at s t k → IsLast v → at + length (t ++ v) ≤ limit → finish kind_of (run kind_of limit at s (t ++ v)) ≡ end_of (first_list k.frames) k
  last-finish at s t v k r bare room =
      ap (λ (z : List ℕ). finish kind_of (run kind_of limit at s z)) (append-nil t) ∙ ap (λ (z : State). finish kind_of z) r.reached ∙ ap (λ (z : State). ended z) r.settled
  last-finish at s t v k r (comment c a) room =
      let lt : at + length t < limit = grind (arith, common_steps) in
      let inside : at + length t + 1 + length c ≤ limit = grind (arith, common_steps) in
      ap (λ (z : State). finish kind_of z) (reach-seam kind_of limit at s t k (59 ∷ c) r (inr (refl, omega arith)) room
      ∙ run-idle kind_of limit (at + length t) k 59 c lt refl ∙ run-line kind_of limit (at + length t + 1) k c inside a)

  -- what isn't finished, from its first byte
  cut-run : (s : Spot) (at : ℕ) (k : Stack) (v : List ℕ) → Unfinished s v → spot_of k.frames k.forms ≡ s → at + length v ≤ limit
      → (m : Mode) × (run kind_of limit at (idle k) v ≡ live k m) × (finish kind_of (live k m) ≡ cut_off (first_list k.frames) at k) × (0 < length v) × IsTrue (begins_apart v)
  cut-run s at k v (block {c = c} h) st room =
      let lt : at < limit = grind (arith, common_steps) in
      let lt_next : at + 1 < limit = grind (arith, common_steps) in
      let inside : at + 1 + 1 + length c ≤ limit = grind (arith, common_steps) in
      let r = run-commenting kind_of limit (at + 1 + 1) k at 0 0 c h (no_pair-0 kind_of limit c) inside in
      (block_mode at r.0 r.1, run-idle kind_of limit at k 35 (124 ∷ c) lt refl ∙ run-go kind_of limit (at + 1) k (sharp at) 124 c lt_next ∙ r.2, refl, omega arith, refl)
  cut-run s at k v (string {q = q} {bytes = bytes} h p) st room =
      let lt : at < limit = grind (arith, common_steps) in
      let inside : at + 1 + length q ≤ limit = grind (arith, common_steps) in
      let free : takes k ≡ true = ap takes_form st ∙ h in (
        string_mode at bytes false,
        run-idle kind_of limit at k 34 q lt refl ∙ ap (λ (z : Bool). run kind_of limit (at + 1) (opening z at k 34) q) free ∙ run-quotes kind_of limit (at + 1) k at [] q bytes p inside,
        refl,
        omega arith,
        refl,
      )
  cut-run s at k v (escape {q = q} {bytes = bytes} h p) st room =
      let lt : at < limit = grind (arith, common_steps) in
      let inside : at + 1 + length q ≤ limit = grind (arith, common_steps) in
      let last : at + 1 + length q < limit = grind (arith, common_steps) in
      let free : takes k ≡ true = ap takes_form st ∙ h in (
        string_mode at bytes true,
        run-idle kind_of limit at k 34 (q ++ 92 ∷ []) lt refl ∙ ap (λ (z : Bool). run kind_of limit (at + 1) (opening z at k 34) (q ++ 92 ∷ [])) free
            ∙ run-append kind_of limit (at + 1) (live k (string_mode at [] false)) q (92 ∷ []) ∙ ap (λ (z : State). run kind_of limit (at + 1 + length q) z (92 ∷ [])) (run-quotes kind_of limit (at + 1) k at [] q bytes p inside)
            ∙ run-go kind_of limit (at + 1 + length q) k (string_mode at bytes false) 92 [] last ∙ run-nothing kind_of limit (at + 1 + length q + 1) _,
        refl,
        omega arith,
        refl,
      )

  cut-finish : (s : Spot) (at : ℕ) (r : State) (t v : List ℕ) (k : Stack) → Reach kind_of limit at r t k → Unfinished s v → spot_of k.frames k.forms ≡ s → at + length (t ++ v) ≤ limit
      → finish kind_of (run kind_of limit at r (t ++ v)) ≡ cut_off (first_list k.frames) (at + length t) k
  cut-finish s at r t v k x u st room =
      let behind : at + length t + length v ≤ limit = grind (arith, common_steps) in
      let c = cut-run s (at + length t) k v u st behind in
      ap (λ (z : State). finish kind_of z) (reach-seam kind_of limit at r t k v x (inr (c.4, c.3)) room ∙ c.1) ∙ c.2

  fails-finish : (at : ℕ) (s : State) (w more : List ℕ) (fs : Forms) (e : Ending) → Fails kind_of limit at s w fs e → IsTrue (begins_apart more) → (more ≡ []) ⊎ (at + length w < limit)
      → finish kind_of (run kind_of limit at s (w ++ more)) ≡ record { forms = fs; ending = e }
  fails-finish at s w [] fs e f a h = ap (λ (z : List ℕ). finish kind_of (run kind_of limit at s z)) (append-nil w) ∙ ap (λ (z : State). finish kind_of z) f.reached ∙ ap (λ (z : State). ended z) f.failed
  fails-finish at s w (b ∷ m) fs e f a (inl n) = cc
  fails-finish at s w (b ∷ m) fs e f a (inr lt) =
      ap (λ (z : State). finish kind_of z) (run-append kind_of limit at s w (b ∷ m) ∙ ap (λ (z : State). run kind_of limit (at + length w) z (b ∷ m)) f.reached
      ∙ run-apart kind_of limit (at + length w) f.under f.place f.token b m lt a ∙ ap (λ (z : State). run kind_of limit (at + length w + 1) (apart (at + length w) z b) m) f.failed
      ∙ run-stopped kind_of limit (at + length w + 1) fs e m)

  sharp-finish : (at place : ℕ) (k : Stack) (more : List ℕ) → IsTrue (begins_no_bar more) → (more ≡ []) ⊎ (at < limit) → finish kind_of (run kind_of limit at (live k (sharp place)) more) ≡ record { forms = outer_of k; ending = fault 2 place }
  sharp-finish at place k [] a h = ap (λ (z : State). finish kind_of z) (run-nothing kind_of limit at (live k (sharp place)))
  sharp-finish at place k (b ∷ m) a (inl n) = cc
  sharp-finish at place k (b ∷ m) a (inr lt) =
      ap (λ (z : State). finish kind_of z) (run-go kind_of limit at k (sharp place) b m lt ∙ ap (λ (z : Bool). run kind_of limit (at + 1) (sharp_step z place k) m) (is_false (nat_eq b 124) a)
      ∙ run-stopped kind_of limit (at + 1) (outer_of k) (fault 2 place) m)

  -- what has begun leaves the stack as it is
  begun-run : (s : Spot) (at : ℕ) (k : Stack) (v : List ℕ) → Begun s v → spot_of k.frames k.forms ≡ s → at + length v ≤ limit → (m : Mode) × (run kind_of limit at (idle k) v ≡ live k m)
  begun-run s at k v nothing st room = (word 0 [], run-nothing kind_of limit at (idle k))
  begun-run s at k v (word_begun [] a) st room = (word 0 [], run-nothing kind_of limit at (idle k))
  begun-run s at k v (word_begun (b ∷ w) a) st room = (word at (b ∷ w), run-word kind_of limit at k b w room a)
  begun-run s at k v sharp_reads st room = (sharp at, run-idle kind_of limit at k 35 [] (grind (arith, common_steps)) refl ∙ run-nothing kind_of limit (at + 1) _)
  begun-run s at k v (line_begun c a) st room =
      (line, run-idle kind_of limit at k 59 c (grind (arith, common_steps)) refl ∙ run-line kind_of limit (at + 1) k c (grind (arith, common_steps)) a)
  begun-run s at k v (block h) st room = let c = cut-run s at k v (block h) st room in (c.0, c.1)
  begun-run s at k v (string h q) st room = let c = cut-run s at k v (string h q) st room in (c.0, c.1)
  begun-run s at k v (escape h q) st room = let c = cut-run s at k v (escape h q) st room in (c.0, c.1)

  step-past : (at : ℕ) (k : Stack) (m : Mode) (b : ℕ) (more : List ℕ) → limit ≤ at → run kind_of limit at (live k m) (b ∷ more) ≡ stopped (outer_of k) too_long
  step-past at k m b more h =
      run-first kind_of limit at (live k m) b more ∙ ap (λ (z : Bool). run kind_of limit (at + 1) (limited kind_of z at k m b) more) (past-limit limit at h) ∙ run-stopped kind_of limit (at + 1) (outer_of k) too_long more

  module _ (named : (w : List ℕ) (f : Form) → Token w f → IsToken kind_of w f) (dot_kind : kind_of (46 ∷ []) ≡ single_dot)
      (wide : (w : List ℕ) → IsWide w → IsRun kind_of w wide_kind) (no_kind : (w : List ℕ) → IsBad w → IsRun kind_of w no_token) where
    pub one_outcome : (levels : ℕ) (t : List ℕ) (fs : Forms) (e : Ending) → Reads levels limit t fs e → finish kind_of (run kind_of limit 0 (idle (top_of end levels)) t) ≡ outcome fs e
    one_outcome levels t fs e (to_end {t = u} {v = v} p l h) =
        let short : 0 + length u ≤ limit = grind (arith, common_steps) in
        let r : Reach kind_of limit 0 (idle (top_of end levels)) u (top_of fs levels) =
        reach-as kind_of limit 0 _ u _ _ (give-top fs levels (items-proper levels u fs p))
        (reach-items kind_of limit named dot_kind 0 levels (top_of end levels) u fs p (omega arith) (top-takes_all fs end levels) short) in
        last-finish 0 _ u v (top_of fs levels) r l (omega arith)
    one_outcome levels t fs e (unclosed {s = s} {d = d} {n = n} {place = place} {t = u} {v = v} q l w h) =
        let short : length u ≤ limit = grind (arith, common_steps) in
        let o = reach-open kind_of limit named dot_kind levels s (Some place) d n u fs q l short in
        elim w [
          | inl last ↦ last-finish 0 _ u v o.0 o.1 last (omega arith) ∙ ap (λ (z : Option ℕ). end_of z o.0) (o.2).first ∙ outcome_as _ _ _ _ (o.2).forms refl
          | inr cut_short ↦ cut-finish s 0 _ u v o.0 o.1 cut_short (o.2).spot (omega arith) ∙ ap (λ (z : Option ℕ). cut_off z (0 + length u) o.0) (o.2).first ∙ outcome_as _ _ _ _ (o.2).forms refl
        ]
    one_outcome levels t fs e (unfinished {s = s} {d = d} {n = n} {t = u} {v = v} q l w h) =
        let short : length u ≤ limit = grind (arith, common_steps) in
        let here : 0 + length u ≡ length u = omega arith in
        let o = reach-open kind_of limit named dot_kind levels s None d n u fs q l short in
        cut-finish s 0 _ u v o.0 o.1 w (o.2).spot (omega arith) ∙ ap (λ (z : Option ℕ). cut_off z (0 + length u) o.0) (o.2).first ∙ outcome_as _ _ _ _ (o.2).forms (ap (λ (z : ℕ). fault 1 z) here)
    one_outcome levels t fs e (unquoted {s = s} {d = d} {n = n} {t = u} {u = x} {v = v} q l p w h) =
        let short : length u ≤ limit = grind (arith, common_steps) in
        let marked_room : 0 + length (u ++ 39 ∷ x) ≤ limit = grind (arith, common_steps) in
        let here : 0 + length u ≡ length u = omega arith in
        let o = reach-open kind_of limit named dot_kind levels s None (suc d) n u fs q (omega arith) short in
        let depth : (o.0).depth ≡ suc d = (o.2).depth in
        let free : takes o.0 ≡ true = ap takes_form (o.2).spot ∙ outside-takes s (open-outside s None (suc d) n u fs q refl) in
        let r = reach-past_mark kind_of limit named dot_kind 0 _ u x o.0 d o.1 free (omega (arith, depth)) p marked_room in
        last-finish 0 _ (u ++ 39 ∷ x) v (opened_on mark (0 + length u) o.0 ((o.0).depth - 1)) r w (omega arith)
        ∙ ap (λ (z : Option ℕ). end_of z (opened_on mark (0 + length u) o.0 ((o.0).depth - 1))) (o.2).first ∙ outcome_as _ _ _ _ (o.2).forms (ap (λ (z : ℕ). fault 2 z) here)
    one_outcome levels t fs e (unopened {s = s} {d = d} {n = n} {t = u} more q l h) =
        let lt : 0 + length u < limit = omega arith in
        let here : 0 + length u ≡ length u = omega arith in
        let o = reach-open kind_of limit named dot_kind levels s None d n u fs q l (omega arith) in
        let outside : (spot_of (o.0).frames (o.0).forms ≡ outermost) ⊎ (spot_of (o.0).frames (o.0).forms ≡ past_mark) = elim (open-outside s None d n u fs q refl) [ inl e ↦ inl ((o.2).spot ∙ e) | inr e ↦ inr ((o.2).spot ∙ e) ] in
        ap (λ (z : State). finish kind_of z) (reach-apart kind_of limit 0 _ u o.0 41 more o.1 refl lt ∙ run-idle kind_of limit (0 + length u) o.0 41 more lt refl
        ∙ ap (λ (z : State). run kind_of limit (0 + length u + 1) z more) (close-outside (o.0).frames (o.0).forms (o.0).depth (0 + length u) outside (o.2).first)
        ∙ run-stopped kind_of limit (0 + length u + 1) (outer_of o.0) (fault 1 (0 + length u)) more)
        ∙ outcome_as _ _ _ _ (o.2).forms (ap (λ (z : ℕ). fault 1 z) here)
    one_outcome levels t fs e (unmarked {d = d} {n = n} {place = place} {t = u} more q l h) =
        let lt : 0 + length u < limit = omega arith in
        let here : 0 + length u ≡ length u = omega arith in
        let o = reach-open kind_of limit named dot_kind levels past_mark (Some place) d n u fs q l (omega arith) in
        ap (λ (z : State). finish kind_of z) (reach-apart kind_of limit 0 _ u o.0 41 more o.1 refl lt ∙ run-idle kind_of limit (0 + length u) o.0 41 more lt refl
        ∙ ap (λ (z : State). run kind_of limit (0 + length u + 1) z more) (close-marked (o.0).frames (o.0).forms (o.0).depth (0 + length u) place (o.2).spot (o.2).first)
        ∙ run-stopped kind_of limit (0 + length u + 1) (outer_of o.0) (fault 2 (0 + length u)) more)
        ∙ outcome_as _ _ _ _ (o.2).forms (ap (λ (z : ℕ). fault 2 z) here)
    one_outcome levels t fs e (stopped_reads {s = s} {o = place} {d = d} {n = n} {code = code} {t = u} {v = v} more q l m p h) =
        let short : length u ≤ limit = grind (arith, common_steps) in
        let behind : 0 + length u + length v ≤ limit = grind (arith, common_steps) in
        let here : 0 + length u ≡ length u = omega arith in
        let o = reach-open kind_of limit named dot_kind levels s place d n u fs q l short in
        ap (λ (z : State). finish kind_of z) (run-append kind_of limit 0 _ (u ++ v) more ∙ ap (λ (z : State). run kind_of limit (0 + length (u ++ v)) z more)
        (reach-seam kind_of limit 0 _ u o.0 v o.1 m (omega arith) ∙ stops-apart kind_of limit named dot_kind wide no_kind s place d fs o.0 (0 + length u) v code p o.2 behind)
        ∙ run-stopped kind_of limit (0 + length (u ++ v)) fs (fault code (0 + length u)) more) ∙ outcome_as _ _ _ _ refl (ap (λ (z : ℕ). fault code z) here)
    one_outcome levels t fs e (judged_reads {s = s} {o = place} {d = d} {n = n} {code = code} {t = u} {w = w} more q l c j a h) =
        let most : length (u ++ w) ≤ limit = h.0 in
        let short : length u ≤ limit = grind (arith, common_steps) in
        let behind : 0 + length u + length w ≤ limit = grind (arith, common_steps) in
        let joined : length (u ++ w) ≡ 0 + length u + length w = grind (arith, common_steps) in
        let here : 0 + length u ≡ length u = omega arith in
        let o = reach-open kind_of limit named dot_kind levels s place d n u fs q l short in
        let seen : (more ≡ []) ⊎ (0 + length u + length w < limit) = elim h.1 [ inl e ↦ inl e | inr lt ↦ inr (omega (arith, lt, joined)) ] in
        ap (λ (z : List ℕ). finish kind_of (run kind_of limit 0 (idle (top_of end levels)) z)) (append_assoc u w more)
        ∙ ap (λ (z : State). finish kind_of z) (reach-closed kind_of limit 0 _ u o.0 (w ++ more) o.1 c)
        ∙ fails-finish (0 + length u) (idle o.0) w more fs (fault code (0 + length u)) (judged-fails kind_of limit named dot_kind wide no_kind s place d fs o.0 (0 + length u) w code j o.2 behind) a seen
        ∙ outcome_as _ _ _ _ refl (ap (λ (z : ℕ). fault code z) here)
    one_outcome levels t fs e (sharp_reads {s = s} {o = place} {d = d} {n = n} {t = u} more q l a h) =
        let most : length (u ++ 35 ∷ []) ≤ limit = h.0 in
        let joined : length (u ++ 35 ∷ []) ≡ 0 + length u + 1 = grind (arith, common_steps) in
        let short : length u ≤ limit = omega (arith, most, joined) in
        let lt : 0 + length u < limit = omega (arith, most, joined) in
        let here : 0 + length u ≡ length u = omega arith in
        let o = reach-open kind_of limit named dot_kind levels s place d n u fs q l short in
        let seen : (more ≡ []) ⊎ (0 + length u + 1 < limit) = elim h.1 [ inl e ↦ inl e | inr lt ↦ inr (omega (arith, lt, joined)) ] in
        ap (λ (z : State). finish kind_of z) (reach-apart kind_of limit 0 _ u o.0 35 more o.1 refl lt ∙ run-idle kind_of limit (0 + length u) o.0 35 more lt refl)
        ∙ sharp-finish (0 + length u + 1) (0 + length u) o.0 more a seen ∙ outcome_as _ _ _ _ (o.2).forms (ap (λ (z : ℕ). fault 2 z) here)
    one_outcome levels t fs e (past {t = u} b more (holds {s = s} {o = place} {d = d} {n = n} {t = x} {v = v} q l m g) h) =
        let short : length x ≤ limit = grind (arith, common_steps) in
        let behind : 0 + length x + length v ≤ limit = grind (arith, common_steps) in
        let full : limit ≤ 0 + length (x ++ v) = omega arith in
        let o = reach-open kind_of limit named dot_kind levels s place d n x fs q l short in
        let r = begun-run s (0 + length x) o.0 v g (o.2).spot behind in
        ap (λ (z : State). finish kind_of z) (run-append kind_of limit 0 _ (x ++ v) (b ∷ more) ∙ ap (λ (z : State). run kind_of limit (0 + length (x ++ v)) z (b ∷ more))
        (reach-seam kind_of limit 0 _ x o.0 v o.1 m (omega arith) ∙ r.1) ∙ step-past (0 + length (x ++ v)) o.0 r.0 b more full) ∙ outcome_as _ _ _ _ (o.2).forms refl
