-- Terms with a constant in the place of a part's variable.
use Rattle.std.proofs.Common.{◌≡◌, ◌≤◌, ◌<◌, ◌+◌, ◌∙◌, ℕ, zero, suc, Some, List, [], ◌∷◌, map, refl, ap, ap₂, subst, inl, inr, arith}
use Rattle.std.specs.Prelude.{codes, if◌then◌else◌, slice_set}
use Rattle.nq_logic.specs.Terms.{Name, Term, Variable, Function, Applied, Substitution, IsAmong, Each, call, substituted}
use Rattle.nq_logic.specs.Words.{not_term, or_term}
use Rattle.nq_logic.specs.Ground.{symbols_of}
use Rattle.nq_logic.specs.Histories.{Part, Restriction, OneOf, NoneOf, Shell}
use Rattle.nq_logic.specs.Shells.{either_of, made, made_with, part_variable, part_variables, recognized, restricted}
use Rattle.nq_logic.specs.Sizes.{depth_of, depth_limit}
use Rattle.nq_bank.proofs.Texts.{eq-bytes_eq}
use Rattle.nq_clause.proofs.SubstitutionLemmas.{substituted-call}
use Rattle.nq_proof.specs.Clauses.{Clause}
use Rattle.nq_proof.specs.Rules.{pair_terms}
use Rattle.nq_rule.specs.Results.{instance_of}
use Rattle.nq_history.specs.declared.entry.Entry.{Entry}
use Rattle.nq_history.specs.Events.{events_at}
use Rattle.nq_kernel.specs.declared.work.Work.{Work}
use Rattle.nq_kernel.specs.Growing.{held}
use Rattle.nq_kernel.proofs.HeldLines.{holds_held}
use Rattle.nq_arith.specs.Nests.{is_smaller}
use Rattle.nq_lines.specs.Lines.{AreAmong, LineHasOnly}
use Rattle.nq_lines.proofs.InstanceLemmas.{mapped_among}
use Rattle.nq_lines.proofs.LineLemmas.{from_distinct}
use Rattle.nq_lines.proofs.TermLemmas.{IsOver, not_over}
use Rattle.nq_replay.specs.Uncounted.{IsShallow}
use Rattle.nq_replay.proofs.UncountedLemmas.{all_shallow}
use Rattle.nq_part_lines.specs.Defaulted.{put}
use Rattle.nq_part_lines.specs.Known.{row_room}
use Rattle.nq_part_lines.specs.LawLines.{term_room}
use Rattle.nq_part_lines.specs.Wholes.{part_name}
use Rattle.nq_part_lines.proofs.CallLemmas.{one_depth}
use Rattle.nq_part_lines.proofs.DepthLemmas.{instance_depth}
use Rattle.nq_part_lines.proofs.MovedLemmas.{smaller_room}
use Rattle.nq_part_lines.proofs.PartNameLemmas.{name_differs}
use Rattle.nq_part_lines.proofs.TermLemmas.{smaller_over}

pub put_variable : (x : Name) (d : Term) → put x d (Variable x) ≡ d
put_variable x d = ap (λ b. if b then d else Variable x) (eq-bytes_eq x x refl)

-- in a restriction
put_either : (x : Name) (d : Term) (rs : List Name) (t : Term) → put x d (either_of (recognized rs t)) ≡ either_of (recognized rs (put x d t))
put_either x d [] t = refl
put_either x d (r ∷ []) t = refl
put_either x d (r ∷ q ∷ rs) t = ap (or_term (Applied (Function r) (put x d t))) (put_either x d (q ∷ rs) t)

pub put_restricted : (x : Name) (d : Term) (r : Restriction) (t : Term) → put x d (restricted r t) ≡ restricted r (put x d t)
put_restricted x d (OneOf rs) t = put_either x d rs t
put_restricted x d (NoneOf []) t = refl
put_restricted x d (NoneOf (r ∷ rs)) t = ap not_term (put_either x d (r ∷ rs) t)

-- in an object: the other variables stay
stays : (d : Term) (n j : ℕ) → (j ≡ n → ⊥) → put (part_name n) d (part_variable j) ≡ part_variable j
stays d n j other = ap (λ b. if b then d else part_variable j) (name_differs j n other)

others_stay : (d : Term) (n j : ℕ) (parts : List Part) → n < j → map (put (part_name n) d) (part_variables j parts) ≡ part_variables j parts
others_stay d n j [] l = refl
others_stay d n j (p ∷ parts) l =
    let more : n < suc j = omega (arith, l) in
    ap₂ ◌∷◌ (stays d n j (λ e. absurd (omega (arith, l, e)))) (others_stay d n (suc j) parts more)

one_put : (d : Term) (n j i : ℕ) (parts : List Part) → n ≡ j + i → map (put (part_name n) d) (part_variables j parts) ≡ slice_set (part_variables j parts) i d
one_put d n j i [] e = refl
one_put d n j zero (p ∷ parts) e =
    let same : j ≡ n = omega (arith, e) in
    let more : n < suc j = omega (arith, e) in
    ap₂ ◌∷◌ (ap (λ m. put (part_name n) d (part_variable m)) same ∙ put_variable (part_name n) d) (others_stay d n (suc j) parts more)
one_put d n j (suc i) (p ∷ parts) e =
    let more : n ≡ suc j + i = omega (arith, e) in
    ap₂ ◌∷◌ (stays d n j (λ k. absurd (omega (arith, e, k)))) (one_put d n (suc j) i parts more)

pub put_made : (s : Shell) (k : ℕ) (d : Term) → put (part_name k) d (made s) ≡ made_with s k d
put_made s k d =
    let here : k ≡ 0 + k = omega arith in
    substituted-call ((part_name k, d) ∷ []) s.constructor (part_variables 0 s.parts)
    ∙ ap (λ (ts : List Term). call s.constructor ts) (one_put d k 0 k s.parts here)

-- what is put in the place of a variable in the line that the variable is smaller
pub put_literals : (x : Name) (d a v o : Term) → v ≡ Variable x → map (put x d) (not_term a ∷ is_smaller v o ∷ []) ≡ not_term (put x d a) ∷ is_smaller d (put x d o) ∷ []
put_literals x d a v o e = ap (λ t. not_term (put x d a) ∷ is_smaller t (put x d o) ∷ []) (ap (put x d) e ∙ put_variable x d)

-- how deep that is
module _ (history : List Entry) (work : Work) (s : Substitution) (room : Each (λ u. depth_of u ≤ row_room) (pair_terms s)) where
  pub put_low : (t : Term) → IsOver history work t → depth_of (substituted s t) ≤ depth_of t + row_room
  put_low t over = instance_depth (symbols_of (events_at work.bank history)) s row_room room (omega arith) t over.over

  pub put_shallow : (line : ℕ) (a v o : Term) → LineHasOnly work line (not_term a ∷ is_smaller v o ∷ []) → IsOver history work a → IsOver history work v → IsOver history work o → depth_of a ≤ row_room → depth_of v ≤ row_room → depth_of o ≤ row_room → IsShallow (Some (instance_of s (held work line)))
  put_shallow line a v o h ka kv ko la lv lo =
      let these : List Term = not_term a ∷ is_smaller v o ∷ [] in
      let c : Clause = held work line in
      let within : AreAmong c these = λ u k. h.only u (subst (λ d. IsAmong u d) (holds_held work line h.literals h.stands) k) in
      all_shallow (Some (instance_of s c)) (instance_of s c) refl (λ u m.
      one_low u (mapped_among (substituted s) c these within u (from_distinct u (map (substituted s) c) m)))
    where
      one_low : (u : Term) → IsAmong u (map (substituted s) (not_term a ∷ is_smaller v o ∷ [])) → depth_of u ≤ depth_limit
      one_low u (inl k) =
          let low : depth_of (not_term a) ≤ depth_of a + 1 = one_depth (codes "NOT") a in
          let deep : depth_of (substituted s (not_term a)) ≤ depth_of (not_term a) + row_room = put_low (not_term a) (not_over history work a ka) in
          let depth : depth_of u ≡ depth_of (substituted s (not_term a)) = ap depth_of k in
          omega (arith, low, deep, depth, la)
      one_low u (inr (inl k)) =
          let low : depth_of (is_smaller v o) ≤ term_room = smaller_room v o lv lo in
          let deep : depth_of (substituted s (is_smaller v o)) ≤ depth_of (is_smaller v o) + row_room = put_low (is_smaller v o) (smaller_over history work v o kv ko) in
          let depth : depth_of u ≡ depth_of (substituted s (is_smaller v o)) = ap depth_of k in
          omega (arith, low, deep, depth)
      one_low u (inr (inr none)) = absurd none
