-- Calls that are carried back in which one term took the other's place in one argument.
use Rattle.std.proofs.Common.{◌≡◌, ℕ, Some, None, Option, List, [], ◌∷◌, ◌++◌, map, sym, ap, ◌∙◌, subst}
use Rattle.std.specs.Prelude.{All, unwrap_or}
use Rattle.nq_logic.specs.Terms.{Term, IsAmong}
use Rattle.nq_logic.specs.Words.{equal_term}
use Rattle.nq_bank.specs.declared.node.TermId.{TermId}
use Rattle.nq_bank.specs.Content.{Content, IsIdOf, term_at, terms_at}
use Rattle.nq_bank.specs.Parts.{parts_of}
use Rattle.nq_bank.proofs.Growth.{term_at-grown}
use Rattle.nq_proof.specs.Clauses.{Clause, literal_at, without}
use Rattle.nq_rule.specs.Results.{with_argument}
use Rattle.nq_history.specs.declared.entry.Entry.{Entry}
use Rattle.nq_kernel.specs.declared.work.Work.{Work}
use Rattle.nq_kernel.specs.Growing.{WorkStands, WorkGrows}
use Rattle.nq_kernel.proofs.GrowingLemmas.{WorkGrows-trans}
use Rattle.nq_lines.specs.declared.calls.Equated.{Equated}
use Rattle.nq_lines.specs.Lines.{IsTermIn, LineHasOnly, AreAmong, CarriesTo}
use Rattle.nq_lines.proofs.LineLemmas.{only_grown, only_more}
use Rattle.nq_lines.proofs.TermLemmas.{term_grown, same_term_grown}
use Rattle.nq_lines.proofs.Among.{and_among, none_among, beside, on_right}
use Rattle.nq_goals.specs.Replacing.{Exchange, exchanged}
use Rattle.nq_moves.specs.declared.equal.Swap.{Swap}
use Rattle.nq_moves.specs.declared.moved.Crossing.{Crossing}
use Rattle.nq_moves.specs.declared.readings.Reading.{Reading}
use Rattle.nq_moves.specs.Equal.{swap_at, SwapStands, IsEqual}
use Rattle.nq_moves.specs.Back.{BackTo}
use Rattle.nq_moves.specs.Swapped.{reading_at, crossed, IsSwapping, CrossesBack}
use Rattle.nq_moves.proofs.EqualLemmas.{same_swap}
use Rattle.nq_moves.proofs.SwappedLemmas.{goal_same, reading_same}

module _ (history : List Entry) (w0 w1 w2 w3 : Work) (stood : WorkStands history w0) (g1 : WorkGrows history w0 w1) (g2 : WorkGrows history w1 w2) (w : Swap) (whole part : TermId) (place : ℕ) (e call : Equated) (line n : ℕ) where
  pub crossed_back : SwapStands history w0 w → IsTermIn history w0 whole → IsTermIn history w0 part → literal_at place (parts_of (term_at w0.bank whole)) ≡ Some (term_at w0.bank part) → IsEqual history w1 w part e → IsIdOf w2.bank call.term (with_argument place (term_at w1.bank e.term) (term_at w1.bank whole)) → CarriesTo w1 w2 place (term_at w1.bank whole) (term_at w1.bank e.term) e.line call.line → BackTo w2 w3 whole call line n → CrossesBack w0 w3 w place whole line n
  crossed_back swap over part_in at equal id carries back these among has =
      let whole1 : term_at w1.bank whole ≡ term_at w0.bank whole = same_term_grown history w0 w1 whole g1 over in
      let whole2 : term_at w2.bank whole ≡ term_at w0.bank whole = same_term_grown history w1 w2 whole g2 (term_grown history w0 w1 whole stood g1 over) ∙ whole1 in
      let part1 : term_at w1.bank part ≡ term_at w0.bank part = same_term_grown history w0 w1 part g1 part_in in
      let hypothesis : term_at w1.bank w.hypothesis ≡ term_at w0.bank w.hypothesis = term_at-grown w0.bank w1.bank w.hypothesis g1.bank swap.hypothesis in
      let X : Term → Term = exchanged (swap_at w0.bank w) in
      let t : Term = term_at w0.bank whole in
      let made : term_at w1.bank e.term ≡ X (term_at w0.bank part) = equal.is ∙ ap (λ es. exchanged es (term_at w1.bank part)) (same_swap history w0 w1 stood g1 w swap) ∙ ap X part1 in
      let call_is : term_at w2.bank call.term ≡ crossed (swap_at w0.bank w) place t =
      id.denotes ∙ ap (with_argument place (term_at w1.bank e.term)) whole1 ∙ ap (λ u. with_argument place u t) made ∙ ap (λ o. with_argument place (X (unwrap_or o t)) t) (sym at) in
      let g : WorkGrows history w0 w2 = WorkGrows-trans history w0 w1 w2 g1 g2 in
      let first : LineHasOnly w2 line (term_at w2.bank call.term ∷ these) = subst (λ u. LineHasOnly w2 line (u ∷ these)) (sym call_is) (only_grown history w0 w2 line _ stood g has) in
      let equation : Term = equal_term (term_at w1.bank part) (term_at w1.bank e.term) in
      let there : IsAmong (term_at w1.bank w.hypothesis) these = subst (λ u. IsAmong u these) (sym hypothesis) among in
      let shown : LineHasOnly w1 e.line (equation ∷ these) =
      only_more w1 e.line (equation ∷ term_at w1.bank w.hypothesis ∷ []) (equation ∷ these) (beside equation (term_at w1.bank w.hypothesis ∷ []) these (and_among (term_at w1.bank w.hypothesis) [] these there (none_among these))) equal.says in
      let at1 : literal_at place (parts_of (term_at w1.bank whole)) ≡ Some (term_at w1.bank part) = ap (λ u. literal_at place (parts_of u)) whole1 ∙ at ∙ ap (λ u. Some u) (sym part1) in
      let carried : LineHasOnly w2 call.line (equal_term (term_at w1.bank whole) (with_argument place (term_at w1.bank e.term) (term_at w1.bank whole)) ∷ these) = carries (term_at w1.bank part) these at1 shown in
      let second : LineHasOnly w2 call.line (equal_term (term_at w2.bank whole) (term_at w2.bank call.term) ∷ these) =
      subst (λ u. LineHasOnly w2 call.line (equal_term u (term_at w2.bank call.term) ∷ these)) (whole1 ∙ sym whole2)
      (subst (λ u. LineHasOnly w2 call.line (equal_term (term_at w1.bank whole) u ∷ these)) (sym id.denotes) carried) in
      subst (λ u. LineHasOnly w3 n (u ∷ these)) whole2 (back these first second)

-- the literals of the goal with the one side in the other's place, but for the equation, and all of the goal
abbrev pub rest_of : Content → List TermId → Reading → List Term
rest_of bank goal r = map (exchanged (reading_at bank r)) (without (term_at bank r.literal) (terms_at bank goal)) ++ terms_at bank goal

module _ (history : List Entry) (old new : Work) (stood : WorkStands history old) (grows : WorkGrows history old new) (goal : List TermId) (all : All (IsTermIn history old) goal) (r : Reading) where
  pub rest_same : (crossing : Option Crossing) (child : Clause) → IsSwapping history old goal r crossing child → rest_of old.bank goal r ≡ rest_of new.bank goal r
  rest_same crossing child h =
      ap (λ es. map (exchanged es) (without (term_at old.bank r.literal) (terms_at old.bank goal)) ++ terms_at old.bank goal) (sym (reading_same history old new stood grows goal all r h.reading)) ∙
      ap (λ t. map (exchanged (reading_at new.bank r)) (without t (terms_at old.bank goal)) ++ terms_at old.bank goal) (sym (term_at-grown old.bank new.bank r.literal grows.bank h.reading.literal)) ∙
      ap (λ c. map (exchanged (reading_at new.bank r)) (without (term_at new.bank r.literal) c) ++ c) (sym (goal_same history old new stood grows goal all))

-- the child's line without the crossed literal
module _ (history : List Entry) (w0 w1 w2 : Work) (stood : WorkStands history w0) (g1 : WorkGrows history w0 w1) (g2 : WorkGrows history w1 w2) (goal : List TermId) (all : All (IsTermIn history w0) goal) (r : Reading) (x : Crossing) (w : Swap) (line n : ℕ) where
  pub uncrossed : (child : Clause) → IsSwapping history w0 goal r (Some x) child → LineHasOnly w0 line child → w.hypothesis ≡ r.literal → w.from ≡ r.from → w.into ≡ r.into → CrossesBack w1 w2 w x.place x.whole line n → LineHasOnly w2 n (rest_of w2.bank goal r)
  uncrossed child h has literal from into back =
      let these : List Term = rest_of w0.bank goal r in
      let X : Exchange = reading_at w0.bank r in
      let whole : term_at w1.bank x.whole ≡ term_at w0.bank x.whole = same_term_grown history w0 w1 x.whole g1 h.crossing_stands.whole in
      let swap_same : swap_at w1.bank w ≡ X =
      ap (λ t. (term_at w1.bank t, term_at w1.bank w.into) ∷ []) from ∙ ap (λ t. (term_at w1.bank r.from, term_at w1.bank t) ∷ []) into ∙ reading_same history w0 w1 stood g1 goal all r h.reading in
      let hypothesis : term_at w1.bank w.hypothesis ≡ term_at w0.bank r.literal = ap (term_at w1.bank) literal ∙ term_at-grown w0.bank w1.bank r.literal g1.bank h.reading.literal in
      let own : List Term = map (exchanged X) (without (term_at w0.bank r.literal) (terms_at w0.bank goal)) in
      let in_goal : AreAmong (terms_at w0.bank goal) these = on_right own (terms_at w0.bank goal) in
      let among : IsAmong (term_at w1.bank w.hypothesis) these = subst (λ t. IsAmong t these) (sym hypothesis) (in_goal (term_at w0.bank r.literal) h.reading.among) in
      let before : LineHasOnly w0 line (crossed X x.place (term_at w0.bank x.whole) ∷ these) = only_more w0 line child _ h.within has in
      let given : LineHasOnly w1 line (crossed (swap_at w1.bank w) x.place (term_at w1.bank x.whole) ∷ these) =
      subst (λ t. LineHasOnly w1 line (crossed (swap_at w1.bank w) x.place t ∷ these)) (sym whole)
      (subst (λ es. LineHasOnly w1 line (crossed es x.place (term_at w0.bank x.whole) ∷ these)) (sym swap_same) (only_grown history w0 w1 line _ stood g1 before)) in
      let made : LineHasOnly w2 n (term_at w0.bank x.whole ∷ these) = subst (λ t. LineHasOnly w2 n (t ∷ these)) whole (back these among given) in
      subst (LineHasOnly w2 n) (rest_same history w0 w2 stood (WorkGrows-trans history w0 w1 w2 g1 g2) goal all r (Some x) child h)
      (only_more w2 n (term_at w0.bank x.whole ∷ these) these (and_among (term_at w0.bank x.whole) these these (in_goal (term_at w0.bank x.whole) h.crossing_stands.among) (λ t m. m)) made)

-- the child's line without a crossing
pub rest_line : (history : List Entry) (work : Work) (goal : List TermId) (r : Reading) (child : Clause) (line : ℕ) → IsSwapping history work goal r None child → LineHasOnly work line child → LineHasOnly work line (rest_of work.bank goal r)
rest_line history work goal r child line h has = only_more work line child (rest_of work.bank goal r) h.within has
