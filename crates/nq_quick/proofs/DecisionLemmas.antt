-- Assignments and decided terms, as the work grows and for the parts of a proposition.
use Rattle.std.proofs.Common.{◌≡◌, ◌≤◌, ◌<◌, ◌+◌, ℕ, Bool, true, false, List, [], ◌∷◌, ◌++◌, refl, sym, ap, ap₂, ◌∙◌, subst, inl, inr, lit≤, lit<, arith}
use Rattle.std.specs.Prelude.{All}
use Rattle.nq_logic.specs.Terms.{Term, IsAmong}
use Rattle.nq_logic.specs.Shapes.{chosen}
use Rattle.nq_logic.specs.Numerals.{number_of}
use Rattle.nq_logic.specs.Sizes.{tree_depth, depth_of, depth_limit}
use Rattle.nq_logic.specs.Ground.{p_term, q_term}
use Rattle.nq_logic.specs.Words.{not_term, if_term}
use Rattle.nq_logic.proofs.Lists.{among_left, among_right}
use Rattle.nq_proof.specs.Clauses.{has_term}
use Rattle.nq_bank.specs.declared.node.TermId.{TermId}
use Rattle.nq_bank.specs.Content.{Content, Stands, IsIdOf, Grows, term_at, terms_at}
use Rattle.nq_bank.proofs.Growth.{Stands-grown, term_at-grown, terms_at-grown}
use Rattle.nq_bank.proofs.Standing.{stand_grown}
use Rattle.nq_history.specs.declared.entry.Entry.{Entry}
use Rattle.nq_history.specs.Events.{HistoryStands}
use Rattle.nq_rule.specs.declared.branching.Branches.{Branches}
use Rattle.nq_rule.specs.Branches.{BranchesStand}
use Rattle.nq_kernel.specs.declared.work.Work.{Work}
use Rattle.nq_kernel.specs.Over.{TermIsIn}
use Rattle.nq_kernel.specs.Growing.{WorkStands, WorkGrows}
use Rattle.nq_quick.specs.declared.assignments.Assignment.{Assignment}
use Rattle.nq_fragments.specs.declared.connective.Connective.{Connective}
use Rattle.nq_fragments.specs.declared.connective.Connective.TheVariants.{And, Or, Implies, Iff}
use Rattle.nq_quick.specs.declared.heads.Head.{Head}
use Rattle.nq_quick.specs.declared.heads.Head.TheVariants as head
use Rattle.nq_quick.specs.declared.patterns.Case.{Case}
use Rattle.nq_fragments.specs.Propositions.{Proposition, Other, Choice, Denial, Joined, proposition_of, others_in, joined_truth}
use Rattle.nq_quick.specs.Assignments.{truth_with}
use Rattle.nq_quick.specs.Heads.{HasHead, StandsBefore, joined_term, proposition_at, term_of_head}
use Rattle.nq_quick.specs.Choices.{branch_of}
use Rattle.nq_quick.specs.Lines.{LineHasOnly, Says, signed, denial, definition_of}
use Rattle.nq_quick.specs.Patterns.{case_truth}
use Rattle.nq_quick.specs.Decisions.{trues_at, denials_at, truth_at, AreDenied, AssignmentStands, CanDecide, Decides, IsCaseOf, CanInstantiate, IsCaseAssignment, case_trues, weight, weight_at}
use Rattle.nq_quick.proofs.DepthLemmas.{under_not_shallower, test_shallower, first_shallower, second_shallower, left_shallower, right_shallower}
use Rattle.nq_quick.proofs.LineLemmas.{only_grown}
use Rattle.nq_quick.proofs.InLemmas.{in_grown, choice_over, denial_over, joined_over, body_in}

module _ (old new : Content) (h : Grows old new) where
  pub assignment_grown : (a : Assignment) → AssignmentStands old a → AssignmentStands new a
  assignment_grown a k = record { trues = stand_grown old new a.trues.items h k.trues; denials = stand_grown old new a.denials.items h k.denials }

  pub trues_same : (a : Assignment) → AssignmentStands old a → trues_at new a ≡ trues_at old a
  trues_same a k = terms_at-grown old new a.trues.items h k.trues

  pub denials_same : (a : Assignment) → AssignmentStands old a → denials_at new a ≡ denials_at old a
  denials_same a k = terms_at-grown old new a.denials.items h k.denials

  pub truth_same : (a : Assignment) (t : TermId) → AssignmentStands old a → Stands old t → truth_at new a t ≡ truth_at old a t
  truth_same a t k stands = ap₂ (λ ts u. truth_with ts (proposition_of u)) (trues_same a k) (term_at-grown old new t h stands)

  pub can_grown : {history : List Entry} (a : Assignment) (t : TermId) → CanDecide old history a t → CanDecide new history a t
  can_grown a t can =
      let term : term_at new t ≡ term_at old t = term_at-grown old new t h can.term in
      let trues : trues_at new a ≡ trues_at old a = trues_same a can.assignment in
      let denials : denials_at new a ≡ denials_at old a = denials_same a can.assignment in
      record {
        term = Stands-grown old new t h can.term;
        assignment = assignment_grown a can.assignment;
        denied =
            subst (λ ts. AreDenied ts (denials_at new a) (proposition_of (term_at new t))) (sym trues) (
            subst (λ ts. AreDenied (trues_at old a) ts (proposition_of (term_at new t))) (sym denials) (
            subst (λ u. AreDenied (trues_at old a) (denials_at old a) (proposition_of u)) (sym term) can.denied));
        over = in_grown old new _ t h can.term can.over;
        shallow = subst (λ u. depth_of u ≤ depth_limit) (sym term) can.shallow;
        room = λ e. subst (λ u. depth_of u < depth_limit) (sym term) (can.room (sym (truth_same a t can.assignment can.term) ∙ e));
      }

  pub head_grown : (t : TermId) (found : Head) → Stands old t → HasHead old t found → HasHead new t found
  head_grown t found stands k = record { proposition = ap proposition_of term ∙ k.proposition ∙ sym (same_proposition found k.before); term = term ∙ k.term ∙ sym (same_term found k.before); before = k.before }
    where
      term : term_at new t ≡ term_at old t
      term = term_at-grown old new t h stands

      part : (p : TermId) → p.0 < t.0 → term_at new p ≡ term_at old p
      part p below = term_at-grown old new p h (omega (arith, below, stands))

      same_proposition : (found : Head) → StandsBefore t found → proposition_at new t found ≡ proposition_at old t found
      same_proposition head.Other b = ap Other term
      same_proposition head.Truth b = refl
      same_proposition head.Falsity b = refl
      same_proposition (head.Choice parts) b =
          ap (λ p. Choice (proposition_of p) (proposition_of (term_at new parts.first)) (proposition_of (term_at new parts.second))) (part parts.test b.0) ∙
          ap (λ p. Choice (proposition_of (term_at old parts.test)) (proposition_of p) (proposition_of (term_at new parts.second))) (part parts.first b.1) ∙
          ap (λ p. Choice (proposition_of (term_at old parts.test)) (proposition_of (term_at old parts.first)) (proposition_of p)) (part parts.second b.2)
      same_proposition (head.Denial p) b = ap (λ u. Denial (proposition_of u)) (part p b)
      same_proposition (head.Joined c p q) b = ap₂ (λ u v. Joined c (proposition_of u) (proposition_of v)) (part p b.0) (part q b.1)

      same_term : (found : Head) → StandsBefore t found → term_of_head new t found ≡ term_of_head old t found
      same_term head.Other b = term
      same_term head.Truth b = refl
      same_term head.Falsity b = refl
      same_term (head.Choice parts) b =
          ap (λ p. if_term p (term_at new parts.first) (term_at new parts.second)) (part parts.test b.0) ∙
          ap (λ p. if_term (term_at old parts.test) p (term_at new parts.second)) (part parts.first b.1) ∙
          ap (λ p. if_term (term_at old parts.test) (term_at old parts.first) p) (part parts.second b.2)
      same_term (head.Denial p) b = ap not_term (part p b)
      same_term (head.Joined c p q) b = ap₂ (joined_term c) (part p b.0) (part q b.1)

-- a line that says something says it still however the work grows
pub says_grown : (history : List Entry) (old new : Work) (n : ℕ) (value : Bool) (t : TermId) (others : List TermId) → WorkStands history old → WorkGrows history old new → Stands old.bank t → All (Stands old.bank) others → Says old n value t others → Says new n value t others
says_grown history old new n value t others stands grows term ids h =
    subst (λ u. LineHasOnly new n (signed value u ∷ terms_at new.bank others)) (sym (term_at-grown old.bank new.bank t grows.bank term)) (
    subst (λ us. LineHasOnly new n (signed value (term_at old.bank t) ∷ us)) (sym (terms_at-grown old.bank new.bank others grows.bank ids)) (
    only_grown history old new n (signed value (term_at old.bank t) ∷ terms_at old.bank others) stands grows h))

pub decides_grown : (history : List Entry) (old new : Work) (n : ℕ) (a : Assignment) (t : TermId) → WorkStands history old → WorkGrows history old new → CanDecide old.bank history a t → Decides old n a t → Decides new n a t
decides_grown history old new n a t stands grows can h =
    subst (λ b. Says new n b t a.denials.items) (sym (truth_same old.bank new.bank grows.bank a t can.assignment can.term)) (
    says_grown history old new n (truth_at old.bank a t) t a.denials.items stands grows can.term can.assignment.denials h)

-- the truth of a term by its parts
module _ (bank : Content) (a : Assignment) (t : TermId) where
  pub truth_by : (p : Proposition) → proposition_of (term_at bank t) ≡ p → truth_at bank a t ≡ truth_with (trues_at bank a) p
  truth_by p e = ap (truth_with (trues_at bank a)) e

  -- a part whose other terms are the term's can be decided where the term can
  part_can : {history : List Entry} (p : TermId) → CanDecide bank history a t → p.0 < t.0 → depth_of (term_at bank p) < depth_of (term_at bank t) → ((u : Term) → IsAmong u (others_in (proposition_of (term_at bank p))) → IsAmong u (others_in (proposition_of (term_at bank t)))) → TermIsIn bank history p → CanDecide bank history a p
  part_can p can before below within over =
      let whole : depth_of (term_at bank t) ≤ depth_limit = can.shallow in
      let stands : Stands bank t = can.term in
      record {
        term = omega (arith, before, stands);
        assignment = can.assignment;
        denied = λ u m. can.denied u (within u m);
        over = record { stands = can.over.stands; over = over };
        shallow = omega (arith, whole, below);
        room = λ e. omega (arith, whole, below);
      }

  module _ (parts : Branches) (h : HasHead bank t (head.Choice parts)) where
    abbrev p : Proposition
    p = proposition_of (term_at bank parts.test)

    abbrev x : Proposition
    x = proposition_of (term_at bank parts.first)

    abbrev y : Proposition
    y = proposition_of (term_at bank parts.second)

    same_others : others_in (proposition_of (term_at bank t)) ≡ others_in p ++ (others_in x ++ others_in y)
    same_others = ap others_in h.proposition

    to_whole : (u : Term) → IsAmong u (others_in p ++ (others_in x ++ others_in y)) → IsAmong u (others_in (proposition_of (term_at bank t)))
    to_whole u m = subst (λ c. IsAmong u c) (sym same_others) m

    shallower : (u : Term) → depth_of u < depth_of (if_term (term_at bank parts.test) (term_at bank parts.first) (term_at bank parts.second)) → depth_of u < depth_of (term_at bank t)
    shallower u below = subst (λ v. depth_of u < depth_of v) (sym h.term) below

    pub test_can : {history : List Entry} → CanDecide bank history a t → CanDecide bank history a parts.test
    test_can {history = history} can =
        part_can parts.test can h.before.0 (shallower (term_at bank parts.test) (test_shallower (term_at bank parts.test) (term_at bank parts.first) (term_at bank parts.second)))
        (λ u m. to_whole u (among_left u (others_in p) (others_in x ++ others_in y) m))
        (choice_over bank history t (term_at bank parts.test) (term_at bank parts.first) (term_at bank parts.second) h.term can.over.over).0

    pub branch_can : {history : List Entry} (test : Bool) → CanDecide bank history a t → CanDecide bank history a (branch_of parts test)
    branch_can {history = history} true can =
        part_can parts.first can h.before.1 (shallower (term_at bank parts.first) (first_shallower (term_at bank parts.test) (term_at bank parts.first) (term_at bank parts.second)))
        (λ u m. to_whole u (among_right u (others_in p) (others_in x ++ others_in y) (among_left u (others_in x) (others_in y) m)))
        (choice_over bank history t (term_at bank parts.test) (term_at bank parts.first) (term_at bank parts.second) h.term can.over.over).1
    branch_can {history = history} false can =
        part_can parts.second can h.before.2 (shallower (term_at bank parts.second) (second_shallower (term_at bank parts.test) (term_at bank parts.first) (term_at bank parts.second)))
        (λ u m. to_whole u (among_right u (others_in p) (others_in x ++ others_in y) (among_right u (others_in x) (others_in y) m)))
        (choice_over bank history t (term_at bank parts.test) (term_at bank parts.first) (term_at bank parts.second) h.term can.over.over).2

    pub choice_truth : truth_at bank a t ≡ truth_at bank a (branch_of parts (truth_at bank a parts.test))
    choice_truth = ap (truth_with (trues_at bank a)) h.proposition ∙ by_test (truth_at bank a parts.test)
      where
        by_test : (b : Bool) → chosen b (truth_at bank a parts.first) (truth_at bank a parts.second) ≡ truth_at bank a (branch_of parts b)
        by_test true = refl
        by_test false = refl

    pub parts_stand : Stands bank t → BranchesStand bank parts
    parts_stand stands = let one = h.before.0 in let two = h.before.1 in let three = h.before.2 in record { test = omega (arith, one, stands); first = omega (arith, two, stands); second = omega (arith, three, stands) }

    pub choice_lighter : (test : Bool) → (weight_at bank parts.test < weight_at bank t) × (weight_at bank (branch_of parts test) < weight_at bank t)
    choice_lighter test = (omega (arith, whole), by_test test)
      where
        whole : weight_at bank t ≡ 1 + weight p + weight x + weight y
        whole = ap weight h.proposition

        by_test : (b : Bool) → weight_at bank (branch_of parts b) < weight_at bank t
        by_test true = omega (arith, whole)
        by_test false = omega (arith, whole)

  module _ (p : TermId) (h : HasHead bank t (head.Denial p)) where
    pub denied_can : {history : List Entry} → CanDecide bank history a t → CanDecide bank history a p
    denied_can {history = history} can =
        part_can p can h.before (subst (λ v. depth_of (term_at bank p) < depth_of v) (sym h.term) (under_not_shallower (term_at bank p)))
        (λ u m. subst (λ c. IsAmong u c) (sym (ap others_in h.proposition)) m)
        (denial_over bank history t (term_at bank p) h.term can.over.over)

    pub denial_truth : truth_at bank a t ≡ chosen (truth_at bank a p) false true
    denial_truth = ap (truth_with (trues_at bank a)) h.proposition

    pub denial_lighter : weight_at bank p < weight_at bank t
    denial_lighter = let whole : weight_at bank t ≡ 1 + weight_at bank p = ap weight h.proposition in omega (arith, whole)

  module _ (c : Connective) (p q : TermId) (h : HasHead bank t (head.Joined c p q)) where
    pub left_can : {history : List Entry} → CanDecide bank history a t → CanDecide bank history a p
    left_can {history = history} can =
        part_can p can h.before.0 (subst (λ v. depth_of (term_at bank p) < depth_of v) (sym h.term) (left_shallower c (term_at bank p) (term_at bank q)))
        (λ u m. subst (λ d. IsAmong u d) (sym (ap others_in h.proposition)) (among_left u (others_in (proposition_of (term_at bank p))) (others_in (proposition_of (term_at bank q))) m))
        (joined_over bank history t c (term_at bank p) (term_at bank q) h.term can.over.over).0

    pub right_can : {history : List Entry} → CanDecide bank history a t → CanDecide bank history a q
    right_can {history = history} can =
        part_can q can h.before.1 (subst (λ v. depth_of (term_at bank q) < depth_of v) (sym h.term) (right_shallower c (term_at bank p) (term_at bank q)))
        (λ u m. subst (λ d. IsAmong u d) (sym (ap others_in h.proposition)) (among_right u (others_in (proposition_of (term_at bank p))) (others_in (proposition_of (term_at bank q))) m))
        (joined_over bank history t c (term_at bank p) (term_at bank q) h.term can.over.over).1

    pub joined_truth_is : truth_at bank a t ≡ joined_truth c (truth_at bank a p) (truth_at bank a q)
    joined_truth_is = ap (truth_with (trues_at bank a)) h.proposition

    pub joined_lighter : (weight_at bank p + 9 ≤ weight_at bank t) × (weight_at bank q + 9 ≤ weight_at bank t)
    joined_lighter = let whole : weight_at bank t ≡ 9 + weight_at bank p + weight_at bank q = ap weight h.proposition in (omega (arith, whole), omega (arith, whole))

-- a case of a term that can be decided
pub case_truth_is : (bank : Content) (a : Assignment) (t : TermId) (case : Case) (p q : TermId) → IsCaseOf bank a t case p q → case_truth case ≡ truth_at bank a t
case_truth_is bank a t case p q h =
    ap₂ (joined_truth case.connective) h.left h.right ∙ sym (joined_truth_is bank a t case.connective p q h.head)

pub case_grown : {history : List Entry} (old new : Content) (a : Assignment) (t : TermId) (case : Case) (p q : TermId) → Grows old new → CanDecide old history a t → IsCaseOf old a t case p q → IsCaseOf new a t case p q
case_grown old new a t case p q h can k =
    let left = left_can old a t case.connective p q k.head can in
    let right = right_can old a t case.connective p q k.head can in
    record {
      head = head_grown old new h t (head.Joined case.connective p q) can.term k.head;
      left = k.left ∙ sym (truth_same old new h a p can.assignment left.term);
      right = k.right ∙ sym (truth_same old new h a q can.assignment right.term);
    }

pub can_instantiate : {history : List Entry} (bank : Content) (a : Assignment) (t : TermId) (case : Case) (p q : TermId) → CanDecide bank history a t → IsCaseOf bank a t case p q → CanInstantiate bank history case t p q
can_instantiate bank a t case p q can k =
    let c : Connective = case.connective in
    let left = left_can bank a t c p q k.head can in
    let right = right_can bank a t c p q k.head can in
    let whole : depth_of (term_at bank t) ≤ depth_limit = can.shallow in
    let left_below : depth_of (term_at bank p) < depth_of (term_at bank t) = subst (λ v. depth_of (term_at bank p) < depth_of v) (sym k.head.term) (left_shallower c (term_at bank p) (term_at bank q)) in
    let right_below : depth_of (term_at bank q) < depth_of (term_at bank t) = subst (λ v. depth_of (term_at bank q) < depth_of v) (sym k.head.term) (right_shallower c (term_at bank p) (term_at bank q)) in
    record {
      whole = record { stands = can.term; denotes = k.head.term };
      left = left.term;
      right = right.term;
      over = can.over;
      left_room = omega (arith, whole, left_below);
      right_room = omega (arith, whole, right_below);
      room = λ e. can.room (sym (case_truth_is bank a t case p q k) ∙ e);
    }

-- P and Q are denied as the case says
p_denied : (l r : Bool) → IsAmong (denial (has_term p_term (case_trues l r)) p_term) (denial l p_term ∷ denial r q_term ∷ [])
p_denied true true = inl refl
p_denied true false = inl refl
p_denied false true = inl refl
p_denied false false = inl refl

q_denied : (l r : Bool) → IsAmong (denial (has_term q_term (case_trues l r)) q_term) (denial l p_term ∷ denial r q_term ∷ [])
q_denied true true = inr (inl refl)
q_denied true false = inr (inl refl)
q_denied false true = inr (inl refl)
q_denied false false = inr (inl refl)

body_denied : (c : Connective) (l r : Bool) → AreDenied (case_trues l r) (denial l p_term ∷ denial r q_term ∷ []) (proposition_of (definition_of c).body)
unfolding proposition_of
body_denied c l r u m = by_connective c m
  where
    P : Term → Type 0
    P v = IsAmong (denial (has_term v (case_trues l r)) v) (denial l p_term ∷ denial r q_term ∷ [])

    first : u ≡ p_term → P u
    first e = subst P (sym e) (p_denied l r)

    second : u ≡ q_term → P u
    second e = subst P (sym e) (q_denied l r)

    by_connective : (c : Connective) → IsAmong u (others_in (proposition_of (definition_of c).body)) → P u
    by_connective And (inl e) = first e
    by_connective And (inr (inl e)) = second e
    by_connective And (inr (inr none)) = absurd none
    by_connective Or (inl e) = first e
    by_connective Or (inr (inl e)) = second e
    by_connective Or (inr (inr none)) = absurd none
    by_connective Implies (inl e) = first e
    by_connective Implies (inr (inl e)) = second e
    by_connective Implies (inr (inr none)) = absurd none
    by_connective Iff (inl e) = first e
    by_connective Iff (inr (inl e)) = second e
    by_connective Iff (inr (inr (inl e))) = second e
    by_connective Iff (inr (inr (inr none))) = absurd none

body_truth : (c : Connective) (l r : Bool) → truth_with (case_trues l r) (proposition_of (definition_of c).body) ≡ joined_truth c l r
unfolding proposition_of
body_truth And true true = refl
body_truth And true false = refl
body_truth And false true = refl
body_truth And false false = refl
body_truth Or true true = refl
body_truth Or true false = refl
body_truth Or false true = refl
body_truth Or false false = refl
body_truth Implies true true = refl
body_truth Implies true false = refl
body_truth Implies false true = refl
body_truth Implies false false = refl
body_truth Iff true true = refl
body_truth Iff true false = refl
body_truth Iff false true = refl
body_truth Iff false false = refl

pub body_weight : (c : Connective) → weight (proposition_of (definition_of c).body) ≤ 3
unfolding proposition_of
body_weight And = lit≤ tt
body_weight Or = lit≤ tt
body_weight Implies = lit≤ tt
body_weight Iff = lit≤ tt

body_depth : (c : Connective) → depth_of (definition_of c).body < depth_limit
unfolding number_of tree_depth
body_depth And = lit< tt
body_depth Or = lit< tt
body_depth Implies = lit< tt
body_depth Iff = lit< tt

module _ (bank : Content) (case : Case) (a : Assignment) (body : TermId) (h : IsCaseAssignment bank case a) (is : IsIdOf bank body (definition_of case.connective).body) where
  -- the body of a connective's definition can be decided in a case
  pub body_can : (history : List Entry) → HistoryStands bank history → CanDecide bank history a body
  body_can history stands =
      let c : Connective = case.connective in
      let t : Term = (definition_of c).body in
      let deep : depth_of t < depth_limit = body_depth c in
      let below : depth_of (term_at bank body) < depth_limit = subst (λ u. depth_of u < depth_limit) (sym is.denotes) deep in
      record {
        term = is.stands;
        assignment = h.stands;
        denied =
            subst (λ ts. AreDenied ts (denials_at bank a) (proposition_of (term_at bank body))) (sym h.trues) (
            subst (λ ts. AreDenied (case_trues case.left case.right) ts (proposition_of (term_at bank body))) (sym h.denials) (
            subst (λ u. AreDenied (case_trues case.left case.right) (denial case.left p_term ∷ denial case.right q_term ∷ []) (proposition_of u)) (sym is.denotes) (
            body_denied c case.left case.right)));
        over = record { stands = stands; over = body_in bank history c body is };
        shallow = omega (arith, below);
        room = λ e. below;
      }

  pub body_truth_is : truth_at bank a body ≡ case_truth case
  body_truth_is = ap₂ (λ ts u. truth_with ts (proposition_of u)) h.trues is.denotes ∙ body_truth case.connective case.left case.right

  pub body_light : weight_at bank body ≤ 3
  body_light = subst (λ u. weight (proposition_of u) ≤ 3) (sym is.denotes) (body_weight case.connective)

pub weight_same : (old new : Content) (t : TermId) → Grows old new → Stands old t → weight_at new t ≡ weight_at old t
weight_same old new t h stands = ap (λ u. weight (proposition_of u)) (term_at-grown old new t h stands)

pub case_assigned_grown : (old new : Content) (case : Case) (a : Assignment) → Grows old new → IsCaseAssignment old case a → IsCaseAssignment new case a
case_assigned_grown old new case a h k = record { stands = assignment_grown old new h a k.stands; trues = trues_same old new h a k.stands ∙ k.trues; denials = denials_same old new h a k.stands ∙ k.denials }
