-- The line of an object with the parts of X in the place of its variables, and the lines of X.
use Rattle.std.proofs.Common.{◌≡◌, ◌≤◌, ◌∙◌, ℕ, Some, List, [], ◌∷◌, ◌++◌, map, refl, sym, ap, ap₂, subst, inl, inr, arith}
use Rattle.std.specs.Prelude.{slice_get}
use Rattle.nq_logic.specs.Terms.{Term, Function, Applied, IsAmong, Substitution, substituted}
use Rattle.nq_logic.specs.Words.{equal_term, not_term}
use Rattle.nq_logic.specs.Sizes.{depth_of, depth_limit}
use Rattle.nq_logic.specs.Histories.{Part, Shell}
use Rattle.nq_logic.specs.Shells.{is_base, made, recognizes, remade, whole}
use Rattle.nq_arith.specs.Nests.{accessor_of, is_smaller}
use Rattle.nq_bank.specs.declared.node.TermId.{TermId}
use Rattle.nq_bank.specs.Content.{IsIdOf, term_at}
use Rattle.nq_proof.specs.Clauses.{Clause, distinct}
use Rattle.nq_rule.specs.Results.{instance_of}
use Rattle.nq_history.specs.declared.entry.Entry.{Entry}
use Rattle.nq_kernel.specs.declared.work.Work.{Work}
use Rattle.nq_kernel.specs.Growing.{WorkStands, WorkGrows, LineHolds, held}
use Rattle.nq_kernel.proofs.HeldLines.{holds_held}
use Rattle.nq_lines.specs.Lines.{AreAmong, CutsTo, IsTermIn, LineHasOnly}
use Rattle.nq_lines.specs.Instances.{InstancesTo}
use Rattle.nq_lines.proofs.InstanceLemmas.{mapped_among}
use Rattle.nq_lines.proofs.LineLemmas.{among_either, from_distinct, only_grown, only_more}
use Rattle.nq_lines.proofs.TermLemmas.{same_term_grown}
use Rattle.nq_replay.specs.Uncounted.{IsShallow}
use Rattle.nq_replay.proofs.UncountedLemmas.{all_shallow}
use Rattle.nq_part_lines.specs.Known.{row_room}
use Rattle.nq_part_lines.specs.LawLines.{term_room}
use Rattle.nq_part_lines.specs.Wholes.{MovesTo, RemadeLine, WholeLine, part_clause, part_pairs}
use Rattle.nq_part_lines.proofs.CallLemmas.{one_depth}
use Rattle.nq_part_lines.proofs.MovedLemmas.{smaller_room}
use Rattle.nq_part_lines.proofs.PartNameLemmas.{made_at}
use Rattle.nq_part_lines.proofs.RoomLemmas.{remade_low}
use Rattle.nq_part_lines.proofs.TakenLemmas.{only_first}

-- of the object made again
remade_room : (s : Shell) → depth_of (remade s) ≤ row_room
remade_room s = let low = remade_low s in omega (arith, low)

taken_room : (s : Shell) (part : Part) → depth_of (accessor_of part (remade s)) ≤ row_room
taken_room s part = let low = remade_low s in let one = one_depth part.accessor (remade s) in omega (arith, low, one)

pub remade_smaller : (s : Shell) (part : Part) → depth_of (is_smaller (accessor_of part (remade s)) (remade s)) ≤ term_room
remade_smaller s part = smaller_room (accessor_of part (remade s)) (remade s) (taken_room s part) (remade_room s)

module _ (s : Shell) (sub : Substitution) (e : sub ≡ part_pairs 0 s.parts) where
  made_again : substituted sub (made s) ≡ remade s
  made_again = ap (λ r. substituted r (made s)) e ∙ made_at s

  pub remade_only : (old new : Work) (place line n : ℕ) → ((part : Part) → slice_get s.parts place ≡ Some part → LineHasOnly old line (is_smaller (accessor_of part (made s)) (made s) ∷ [])) → InstancesTo old new sub line n → RemadeLine new s place n
  remade_only old new place line n held instances part k =
      subst (λ t. LineHasOnly new n (is_smaller (accessor_of part t) t ∷ [])) made_again (instances (is_smaller (accessor_of part (made s)) (made s) ∷ []) (held part k))

  pub remade_shallow : (work : Work) (line : ℕ) (part : Part) → LineHasOnly work line (is_smaller (accessor_of part (made s)) (made s) ∷ []) → IsShallow (Some (instance_of sub (held work line)))
  remade_shallow work line part h =
      let these : List Term = is_smaller (accessor_of part (made s)) (made s) ∷ [] in
      let c : Clause = held work line in
      let within : AreAmong c these = λ v k. h.only v (subst (λ d. IsAmong v d) (holds_held work line h.literals h.stands) k) in
      all_shallow (Some (instance_of sub c)) (instance_of sub c) refl (λ u m.
      one_low u (mapped_among (substituted sub) c these within u (from_distinct u (map (substituted sub) c) m)))
    where
      one_low : (u : Term) → IsAmong u (map (substituted sub) (is_smaller (accessor_of part (made s)) (made s) ∷ [])) → depth_of u ≤ depth_limit
      one_low u (inl k) =
          let low : depth_of (is_smaller (accessor_of part (remade s)) (remade s)) ≤ term_room = remade_smaller s part in
          let same : u ≡ is_smaller (accessor_of part (remade s)) (remade s) = k ∙ ap (λ t. is_smaller (accessor_of part t) t) made_again in
          let depth : depth_of u ≡ depth_of (is_smaller (accessor_of part (remade s)) (remade s)) = ap depth_of same in
          omega (arith, low, depth)
      one_low u (inr none) = absurd none

-- of X
moved_first : (a d q : Term) → AreAmong (a ∷ d ∷ q ∷ []) (d ∷ a ∷ q ∷ [])
moved_first a d q v (inl e) = inr (inl e)
moved_first a d q v (inr (inl e)) = inl e
moved_first a d q v (inr (inr (inl e))) = inr (inr (inl e))
moved_first a d q v (inr (inr (inr none))) = absurd none

pub whole_only : (one two : Work) (s : Shell) (part : Part) (line moved n : ℕ) → LineHasOnly one line (is_smaller (accessor_of part (remade s)) (remade s) ∷ []) → MovesTo one (is_smaller (accessor_of part (remade s)) (remade s)) whole moved → CutsTo one two (is_smaller (accessor_of part (remade s)) (remade s)) line moved n →
    LineHasOnly two n (is_smaller (accessor_of part whole) whole ∷ not_term (equal_term (remade s) whole) ∷ [])
whole_only one two s part line moved n held moves cut =
    let smaller : Term = is_smaller (accessor_of part (remade s)) (remade s) in
    let a : Term = is_smaller (accessor_of part whole) whole in
    let q : Term = not_term (equal_term (remade s) whole) in
    cut (a ∷ q ∷ []) (only_more one line (smaller ∷ []) (smaller ∷ a ∷ q ∷ []) (only_first smaller (a ∷ q ∷ [])) held)
    (only_more one moved (a ∷ not_term smaller ∷ q ∷ []) (not_term smaller ∷ a ∷ q ∷ []) (moved_first a (not_term smaller) q) (moves part.accessor (remade s) refl))

-- of X where it is of the shell's kind and not its base
row_among : (r a q : Term) (base : List Term) → AreAmong (r ∷ (base ++ (q ∷ []))) (q ∷ a ∷ r ∷ base)
row_among r a q base v (inl e) = inr (inr (inl e))
row_among r a q base v (inr m) = elim (among_either v base (q ∷ []) m) [ inl k ↦ inr (inr (inr k)) | inr k ↦ elim k [ inl e ↦ inl e | inr none ↦ absurd none ] ]

whole_among : (r a d : Term) (base : List Term) → AreAmong (a ∷ d ∷ []) (d ∷ a ∷ r ∷ base)
whole_among r a d base v (inl e) = inr (inl e)
whole_among r a d base v (inr (inl e)) = inl e
whole_among r a d base v (inr (inr none)) = absurd none

-- the row that says that X is made again of its parts
abbrev pub again_clause : Shell → Clause
again_clause s = not_term (recognizes s whole) ∷ (is_base s.base ++ (equal_term (remade s) whole ∷ []))

pub part_only : (one two : Work) (s : Shell) (part : Part) (row about n : ℕ) → LineHolds one row (distinct (again_clause s)) → LineHasOnly one about (is_smaller (accessor_of part whole) whole ∷ not_term (equal_term (remade s) whole) ∷ []) → CutsTo one two (equal_term (remade s) whole) row about n →
    LineHasOnly two n (part_clause s part)
part_only one two s part row about n held moved cut =
    let a : Term = is_smaller (accessor_of part whole) whole in
    let r : Term = not_term (recognizes s whole) in
    let base : List Term = is_base s.base in
    let q : Term = equal_term (remade s) whole in
    let c : Clause = r ∷ (base ++ (q ∷ [])) in
    cut (a ∷ r ∷ base) (record { literals = distinct c; stands = held; only = λ v m. row_among r a q base v (from_distinct v c m) })
    (only_more one about (a ∷ not_term q ∷ []) (not_term q ∷ a ∷ r ∷ base) (whole_among r a (not_term q) base) moved)

-- the lines stay so as the work grows
module _ (history : List Entry) (old new : Work) (stands : WorkStands history old) (grows : WorkGrows history old new) (s r : Shell) (place line : ℕ) where
  pub remade_grown : r ≡ s → RemadeLine old s place line → RemadeLine new r place line
  remade_grown e h = subst (λ q. RemadeLine new q place line) (sym e) (λ part k. only_grown history old new line (is_smaller (accessor_of part (remade s)) (remade s) ∷ []) stands grows (h part k))

  pub whole_grown : r ≡ s → WholeLine old s place line → WholeLine new r place line
  whole_grown e h = subst (λ q. WholeLine new q place line) (sym e) (λ part k. only_grown history old new line (is_smaller (accessor_of part whole) whole ∷ not_term (equal_term (remade s) whole) ∷ []) stands grows (h part k))

-- the term that is made of the object
pub smaller_told : (history : List Entry) (old one two : Work) (s : Shell) (part : Part) (again taken smaller : TermId) → WorkGrows history old one → IsTermIn history old again → term_at old.bank again ≡ remade s → IsIdOf one.bank taken (Applied (Function part.accessor) (term_at old.bank again)) → IsIdOf two.bank smaller (is_smaller (term_at one.bank taken) (term_at one.bank again)) →
    IsIdOf two.bank smaller (is_smaller (accessor_of part (remade s)) (remade s))
smaller_told history old one two s part again taken smaller grows there is t k =
    subst (IsIdOf two.bank smaller) (ap₂ is_smaller (t.denotes ∙ ap (accessor_of part) is) (same_term_grown history old one again grows there ∙ is)) k
