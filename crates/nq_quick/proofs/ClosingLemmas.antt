-- Lines that decide a proposition, from those of its parts.
use Rattle.std.proofs.Common.{◌≡◌, ◌<◌, ℕ, Bool, true, false, List, [], ◌∷◌, refl, sym, ap, ◌∙◌, subst, inl, inr}
use Rattle.nq_logic.specs.Terms.{Term, IsAmong}
use Rattle.nq_logic.specs.Shapes.{chosen}
use Rattle.nq_logic.specs.Sizes.{depth_of, depth_limit}
use Rattle.nq_logic.specs.Words.{not_term, true_term, false_term}
use Rattle.nq_logic.specs.Ground.{p_term, q_term}
use Rattle.nq_proof.specs.Clauses.{Clause, has_term, distinct}
use Rattle.nq_bank.specs.declared.node.TermId.{TermId}
use Rattle.nq_bank.specs.Content.{Content, Stands, Grows, term_at}
use Rattle.nq_bank.specs.Soundness.{IsSound}
use Rattle.nq_bank.proofs.Growth.{term_at-grown}
use Rattle.nq_history.specs.declared.entry.Entry.{Entry}
use Rattle.nq_rule.specs.declared.branching.Branches.{Branches}
use Rattle.nq_kernel.specs.declared.work.Work.{Work}
use Rattle.nq_kernel.specs.Growing.{WorkStands, WorkGrows, LineHolds}
use Rattle.nq_quick.specs.declared.assignments.Assignment.{Assignment}
use Rattle.nq_quick.specs.declared.heads.Head.TheVariants as head
use Rattle.nq_quick.specs.declared.patterns.Case.{Case}
use Rattle.nq_fragments.specs.Propositions.{others_in}
use Rattle.nq_quick.specs.Assignments.{truth_with}
use Rattle.nq_quick.specs.Heads.{HasHead, joined_term}
use Rattle.nq_quick.specs.Choices.{branch_of}
use Rattle.nq_quick.specs.Lines.{LineHasOnly, Says, if_at, signed, denial}
use Rattle.nq_quick.specs.Patterns.{case_truth, case_literals, instance_literals, pattern_term}
use Rattle.nq_quick.specs.Decisions.{trues_at, denials_at, truth_at, CanDecide, Decides, IsCaseOf}
use Rattle.nq_quick.proofs.DepthLemmas.{ids_shallow, under_shallow}
use Rattle.nq_quick.proofs.LineLemmas.{CutsTo, ResolvesTo, only_grown, either_only, one_only}
use Rattle.nq_quick.proofs.ChoiceLemmas.{ChoosesTo, only_wider, under_first}
use Rattle.nq_quick.proofs.DecisionLemmas.{truth_same, denials_same, choice_truth, denial_truth, case_truth_is}

-- what a line says of the old terms it says of the new ones
pub decides_now : {history : List Entry} (old : Content) (new : Work) (n : ℕ) (a : Assignment) (t : TermId) → Grows old new.bank → CanDecide old history a t → LineHasOnly new n (signed (truth_at old a t) (term_at old t) ∷ denials_at old a) → Decides new n a t
decides_now old new n a t grows can h =
    subst (λ b. Says new n b t a.denials.items) (sym (truth_same old new.bank grows a t can.assignment can.term)) (
    subst (λ u. LineHasOnly new n (signed (truth_at old a t) u ∷ denials_at new.bank a)) (sym (term_at-grown old new.bank t grows can.term)) (
    subst (λ us. LineHasOnly new n (signed (truth_at old a t) (term_at old t) ∷ us)) (sym (denials_same old new.bank grows a can.assignment)) h))

module _ {history : List Entry} (bank : Content) (a : Assignment) (t : TermId) (can : CanDecide bank history a t) (h : HasHead bank t head.Other) where
  other_truth : truth_at bank a t ≡ has_term (term_at bank t) (trues_at bank a)
  other_truth = ap (truth_with (trues_at bank a)) h.proposition

  -- the literal of another term that is false is among the denials
  pub other_denied : IsAmong (denial (truth_at bank a t) (term_at bank t)) (denials_at bank a)
  other_denied =
      subst (λ b. IsAmong (denial b (term_at bank t)) (denials_at bank a)) (sym other_truth) (
      can.denied (term_at bank t) (subst (λ c. IsAmong (term_at bank t) c) (sym (ap others_in h.proposition)) (inl refl)))

  -- another term has room under a NOT
  pub other_room : IsSound bank → depth_of (term_at bank t) < depth_limit
  other_room sound = by_value (truth_at bank a t) refl other_denied
    where
      by_value : (b : Bool) → truth_at bank a t ≡ b → IsAmong (denial b (term_at bank t)) (denials_at bank a) → depth_of (term_at bank t) < depth_limit
      by_value true e m = under_shallow (term_at bank t) (ids_shallow bank a.denials.items (not_term (term_at bank t)) sound can.assignment.denials m)
      by_value false e m = can.room e

pub closed_other : {history : List Entry} (old new : Work) (n : ℕ) (a : Assignment) (t : TermId) → Grows old.bank new.bank → CanDecide old.bank history a t → HasHead old.bank t head.Other → LineHolds new n (distinct (term_at old.bank t ∷ not_term (term_at old.bank t) ∷ [])) → Decides new n a t
closed_other old new n a t grows can h holds =
    decides_now old.bank new n a t grows can (either_only new n (term_at old.bank t) (truth_at old.bank a t) (denials_at old.bank a) holds (other_denied old.bank a t can h))

pub closed_truth : {history : List Entry} (old new : Work) (n : ℕ) (a : Assignment) (t : TermId) → Grows old.bank new.bank → CanDecide old.bank history a t → HasHead old.bank t head.Truth → LineHolds new n (true_term ∷ []) → Decides new n a t
closed_truth old new n a t grows can h holds =
    let value : truth_at old.bank a t ≡ true = ap (truth_with (trues_at old.bank a)) h.proposition in
    decides_now old.bank new n a t grows can (
    subst (λ b. LineHasOnly new n (signed b (term_at old.bank t) ∷ denials_at old.bank a)) (sym value) (
    subst (λ u. LineHasOnly new n (u ∷ denials_at old.bank a)) (sym h.term) (one_only new n true_term (denials_at old.bank a) holds)))

pub closed_falsity : {history : List Entry} (old new : Work) (n : ℕ) (a : Assignment) (t : TermId) → Grows old.bank new.bank → CanDecide old.bank history a t → HasHead old.bank t head.Falsity → LineHolds new n (not_term false_term ∷ []) → Decides new n a t
closed_falsity old new n a t grows can h holds =
    let value : truth_at old.bank a t ≡ false = ap (truth_with (trues_at old.bank a)) h.proposition in
    decides_now old.bank new n a t grows can (
    subst (λ b. LineHasOnly new n (signed b (term_at old.bank t) ∷ denials_at old.bank a)) (sym value) (
    subst (λ u. LineHasOnly new n (not_term u ∷ denials_at old.bank a)) (sym h.term) (one_only new n (not_term false_term) (denials_at old.bank a) holds)))

pub closed_choice : {history : List Entry} (old new : Work) (n : ℕ) (a : Assignment) (t : TermId) (parts : Branches) (test value : Bool) (test_line branch_line : ℕ) → Grows old.bank new.bank → CanDecide old.bank history a t → HasHead old.bank t (head.Choice parts) → test ≡ truth_at old.bank a parts.test → value ≡ truth_at old.bank a t → Decides old test_line a parts.test → Decides old branch_line a (branch_of parts (truth_at old.bank a parts.test)) → ChoosesTo old new test value (term_at old.bank parts.test) (term_at old.bank (branch_of parts test)) (if_at old.bank parts) test_line branch_line n → Decides new n a t
closed_choice old new n a t parts test value test_line branch_line grows can h e f by_test by_branch chooses =
    let d : Clause = denials_at old.bank a in
    let tested : LineHasOnly old test_line (signed test (term_at old.bank parts.test) ∷ d) = subst (λ b. LineHasOnly old test_line (signed b (term_at old.bank parts.test) ∷ d)) (sym e) by_test in
    let same : truth_at old.bank a (branch_of parts (truth_at old.bank a parts.test)) ≡ value = sym (choice_truth old.bank a t parts h) ∙ sym f in
    let branch_one : LineHasOnly old branch_line (signed value (term_at old.bank (branch_of parts (truth_at old.bank a parts.test))) ∷ d) =
    subst (λ b. LineHasOnly old branch_line (signed b (term_at old.bank (branch_of parts (truth_at old.bank a parts.test))) ∷ d)) same by_branch in
    let branch : LineHasOnly old branch_line (signed value (term_at old.bank (branch_of parts test)) ∷ d) = subst (λ b. LineHasOnly old branch_line (signed value (term_at old.bank (branch_of parts b)) ∷ d)) (sym e) branch_one in
    let whole : LineHasOnly new n (signed value (if_at old.bank parts) ∷ d) = chooses d tested branch in
    decides_now old.bank new n a t grows can (
    subst (λ b. LineHasOnly new n (signed b (term_at old.bank t) ∷ d)) f (
    subst (λ u. LineHasOnly new n (signed value u ∷ d)) (sym h.term) whole))

-- the NOT of a false term
pub closed_false_denial : {history : List Entry} (old : Work) (n : ℕ) (a : Assignment) (t p : TermId) → CanDecide old.bank history a t → HasHead old.bank t (head.Denial p) → truth_at old.bank a p ≡ false → Decides old n a p → Decides old n a t
closed_false_denial old n a t p can h e line =
    let d : Clause = denials_at old.bank a in
    let value : truth_at old.bank a t ≡ true = denial_truth old.bank a t p h ∙ ap (λ b. chosen b false true) e in
    let under : LineHasOnly old n (not_term (term_at old.bank p) ∷ d) = subst (λ b. LineHasOnly old n (signed b (term_at old.bank p) ∷ d)) e line in
    subst (λ b. LineHasOnly old n (signed b (term_at old.bank t) ∷ d)) (sym value) (subst (λ u. LineHasOnly old n (u ∷ d)) (sym h.term) under)

-- there is room for the NOT of the NOT of a true term
pub denial_room : {history : List Entry} (bank : Content) (a : Assignment) (t p : TermId) → CanDecide bank history a t → HasHead bank t (head.Denial p) → truth_at bank a p ≡ true → depth_of (term_at bank t) < depth_limit
denial_room bank a t p can h e = can.room (denial_truth bank a t p h ∙ ap (λ b. chosen b false true) e)

-- the NOT of a true term
pub closed_true_denial : (history : List Entry) (old one new : Work) (n : ℕ) (a : Assignment) (t p : TermId) (line either : ℕ) → WorkStands history old → WorkGrows history old one → Grows old.bank new.bank → CanDecide old.bank history a t → HasHead old.bank t (head.Denial p) → Stands old.bank p → truth_at old.bank a p ≡ true → Decides old line a p → LineHolds one either (distinct (term_at old.bank t ∷ not_term (term_at old.bank t) ∷ [])) → CutsTo one new (term_at one.bank p) line either n → Decides new n a t
closed_true_denial history old one new n a t p line either stands first grows can h p_stands e by_p holds cuts =
    let d : Clause = denials_at old.bank a in
    let u : Term = term_at old.bank t in
    let v : Term = term_at old.bank p in
    let value : truth_at old.bank a t ≡ false = denial_truth old.bank a t p h ∙ ap (λ b. chosen b false true) e in
    let same : term_at one.bank p ≡ v = term_at-grown old.bank one.bank p first.bank p_stands in
    let under : LineHasOnly old line (v ∷ d) = subst (λ b. LineHasOnly old line (signed b v ∷ d)) e by_p in
    let under_one : LineHasOnly one line (v ∷ not_term u ∷ d) = only_wider one line (v ∷ d) (v ∷ not_term u ∷ d) (under_first v d (not_term u ∷ d) (λ w m. inr m)) (only_grown history old one line (v ∷ d) stands first under) in
    let either_one : LineHasOnly one either (u ∷ not_term u ∷ d) = either_only one either u true (not_term u ∷ d) holds (inl refl) in
    let either_not : LineHasOnly one either (not_term v ∷ not_term u ∷ d) = subst (λ w. LineHasOnly one either (w ∷ not_term u ∷ d)) h.term either_one in
    let cut : LineHasOnly new n (not_term u ∷ d) = cuts (not_term u ∷ d) (subst (λ w. LineHasOnly one line (w ∷ not_term u ∷ d)) (sym same) under_one) (subst (λ w. LineHasOnly one either (not_term w ∷ not_term u ∷ d)) (sym same) either_not) in
    decides_now old.bank new n a t grows can (subst (λ b. LineHasOnly new n (signed b u ∷ d)) (sym value) cut)

module _ {history : List Entry} (old new : Work) (n : ℕ) (a : Assignment) (t : TermId) (case : Case) (p q : TermId) (can : CanDecide old.bank history a t) (h : IsCaseOf old.bank a t case p q) where
  -- the left side is cut from the line of a case
  pub closed_left : (line left_line : ℕ) → LineHasOnly old line (instance_literals case (term_at old.bank p) (term_at old.bank q)) → Decides old left_line a p → ResolvesTo old new case.left (term_at old.bank p) left_line line n → LineHasOnly new n (denial case.right (term_at old.bank q) ∷ signed (truth_at old.bank a t) (term_at old.bank t) ∷ denials_at old.bank a)
  closed_left line left_line is by_left resolves =
      let d : Clause = denials_at old.bank a in
      let l : Term = denial case.left (term_at old.bank p) in
      let r : Term = denial case.right (term_at old.bank q) in
      let w : Term = signed (truth_at old.bank a t) (term_at old.bank t) in
      let whole : signed (case_truth case) (joined_term case.connective (term_at old.bank p) (term_at old.bank q)) ≡ w =
      ap (λ b. signed b (joined_term case.connective (term_at old.bank p) (term_at old.bank q))) (case_truth_is old.bank a t case p q h) ∙ ap (signed (truth_at old.bank a t)) (sym h.head.term) in
      let line_is : LineHasOnly old line (w ∷ l ∷ r ∷ []) = subst (λ u. LineHasOnly old line (u ∷ l ∷ r ∷ [])) whole is in
      let wide : LineHasOnly old line (l ∷ r ∷ w ∷ d) =
      only_wider old line (w ∷ l ∷ r ∷ []) (l ∷ r ∷ w ∷ d) (λ u m. elim m [
        | inl e ↦ inr (inr (inl e))
        | inr k ↦ elim k [
          | inl e ↦ inl e
          | inr j ↦ elim j [ inl e ↦ inr (inl e) | inr none ↦ absurd none ]
        ]
      ]) line_is in
      let left_wide : LineHasOnly old left_line (signed (truth_at old.bank a p) (term_at old.bank p) ∷ r ∷ w ∷ d) =
      only_wider old left_line (signed (truth_at old.bank a p) (term_at old.bank p) ∷ d) (signed (truth_at old.bank a p) (term_at old.bank p) ∷ r ∷ w ∷ d) (under_first (signed (truth_at old.bank a p) (term_at old.bank p)) d (r ∷ w ∷ d) (λ u m. inr (inr m))) by_left in
      resolves (r ∷ w ∷ d) (subst (λ b. LineHasOnly old left_line (signed b (term_at old.bank p) ∷ r ∷ w ∷ d)) (sym h.left) left_wide) wide

  -- the right side is cut from what is left
  pub closed_right : (rest right_line : ℕ) → Grows old.bank new.bank → LineHasOnly old rest (denial case.right (term_at old.bank q) ∷ signed (truth_at old.bank a t) (term_at old.bank t) ∷ denials_at old.bank a) → Decides old right_line a q → ResolvesTo old new case.right (term_at old.bank q) right_line rest n → Decides new n a t
  closed_right rest right_line grows is by_right resolves =
      let d : Clause = denials_at old.bank a in
      let w : Term = signed (truth_at old.bank a t) (term_at old.bank t) in
      let right_wide : LineHasOnly old right_line (signed (truth_at old.bank a q) (term_at old.bank q) ∷ w ∷ d) =
      only_wider old right_line (signed (truth_at old.bank a q) (term_at old.bank q) ∷ d) (signed (truth_at old.bank a q) (term_at old.bank q) ∷ w ∷ d) (under_first (signed (truth_at old.bank a q) (term_at old.bank q)) d (w ∷ d) (λ u m. inr m)) by_right in
      decides_now old.bank new n a t grows can (resolves (w ∷ d) (subst (λ b. LineHasOnly old right_line (signed b (term_at old.bank q) ∷ w ∷ d)) (sym h.right) right_wide) is)

-- the line of a case from that of the body of the connective's definition
pub closed_case : (old one new : Work) (case : Case) (a : Assignment) (body : TermId) (b : Term) (value : Bool) (line folding n : ℕ) (body_one : Term) → body_one ≡ b → term_at old.bank body ≡ b → value ≡ case_truth case → truth_at old.bank a body ≡ case_truth case → denials_at old.bank a ≡ denial case.left p_term ∷ denial case.right q_term ∷ [] → ((these : Clause) → LineHasOnly old line these → LineHasOnly one line these) → Decides old line a body → LineHasOnly one folding (denial value b ∷ signed value (pattern_term case.connective) ∷ []) → ResolvesTo one new value body_one line folding n → LineHasOnly new n (case_literals case)
closed_case old one new case a body b value line folding n body_one e is f truth d grown by_body folds resolves =
    let w : Term = signed value (pattern_term case.connective) in
    let ds : Clause = denial case.left p_term ∷ denial case.right q_term ∷ [] in
    let first : LineHasOnly old line (signed value (term_at old.bank body) ∷ denials_at old.bank a) = subst (λ v. LineHasOnly old line (signed v (term_at old.bank body) ∷ denials_at old.bank a)) (truth ∙ sym f) by_body in
    let second : LineHasOnly old line (signed value b ∷ denials_at old.bank a) = subst (λ u. LineHasOnly old line (signed value u ∷ denials_at old.bank a)) is first in
    let third : LineHasOnly old line (signed value b ∷ ds) = subst (λ us. LineHasOnly old line (signed value b ∷ us)) d second in
    let line_one : LineHasOnly one line (signed value b ∷ w ∷ ds) = only_wider one line (signed value b ∷ ds) (signed value b ∷ w ∷ ds) (under_first (signed value b) ds (w ∷ ds) (λ u m. inr m)) (grown (signed value b ∷ ds) third) in
    let fold_one : LineHasOnly one folding (denial value b ∷ w ∷ ds) = only_wider one folding (denial value b ∷ w ∷ []) (denial value b ∷ w ∷ ds) (under_first (denial value b) (w ∷ []) (w ∷ ds) (under_first w [] ds (λ u m. absurd m))) folds in
    let done : LineHasOnly new n (w ∷ ds) = resolves (w ∷ ds) (subst (λ u. LineHasOnly one line (signed value u ∷ w ∷ ds)) (sym e) line_one) (subst (λ u. LineHasOnly one folding (denial value u ∷ w ∷ ds)) (sym e) fold_one) in
    subst (λ v. LineHasOnly new n (signed v (pattern_term case.connective) ∷ ds)) f done

-- what is left of a case once its left side is cut
abbrev pub rest_of : Content → Assignment → TermId → Case → TermId → Clause
rest_of bank a t case q = denial case.right (term_at bank q) ∷ signed (truth_at bank a t) (term_at bank t) ∷ denials_at bank a

pub rest_same : {history : List Entry} (old new : Content) (a : Assignment) (t : TermId) (case : Case) (q : TermId) → Grows old new → CanDecide old history a t → Stands old q → rest_of new a t case q ≡ rest_of old a t case q
rest_same old new a t case q h can right =
    ap (λ u. denial case.right u ∷ signed (truth_at new a t) (term_at new t) ∷ denials_at new a) (term_at-grown old new q h right) ∙
    ap (λ b. denial case.right (term_at old q) ∷ signed b (term_at new t) ∷ denials_at new a) (truth_same old new h a t can.assignment can.term) ∙
    ap (λ u. denial case.right (term_at old q) ∷ signed (truth_at old a t) u ∷ denials_at new a) (term_at-grown old new t h can.term) ∙
    ap (λ us. denial case.right (term_at old q) ∷ signed (truth_at old a t) (term_at old t) ∷ us) (denials_same old new h a can.assignment)

pub rest_grown : (history : List Entry) (old new : Work) (n : ℕ) (a : Assignment) (t : TermId) (case : Case) (q : TermId) → WorkStands history old → WorkGrows history old new → CanDecide old.bank history a t → Stands old.bank q → LineHasOnly old n (rest_of old.bank a t case q) → LineHasOnly new n (rest_of new.bank a t case q)
rest_grown history old new n a t case q stands grows can right h =
    subst (LineHasOnly new n) (sym (rest_same old.bank new.bank a t case q grows.bank can right)) (only_grown history old new n (rest_of old.bank a t case q) stands grows h)

-- the literals of an instance, of terms that stood
pub instance_same : (old new : Content) (case : Case) (p q : TermId) → Grows old new → Stands old p → Stands old q → instance_literals case (term_at new p) (term_at new q) ≡ instance_literals case (term_at old p) (term_at old q)
instance_same old new case p q h left right =
    ap (λ u. instance_literals case u (term_at new q)) (term_at-grown old new p h left) ∙ ap (instance_literals case (term_at old p)) (term_at-grown old new q h right)
