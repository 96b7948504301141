-- The tree of the failure of (IMPLIES P Q).
use Rattle.std.proofs.Common.{◌≡◌, ℕ, true, false, List, [], ◌∷◌, refl, inl, arith}
use Rattle.nq_logic.specs.Terms.{Term, IsTerm, Each}
use Rattle.nq_logic.specs.Words.{true_term, false_term, if_term, not_term, implies_term}
use Rattle.nq_logic.specs.Formulas.{Formula, Equation, IsFormula, implies, holds}
use Rattle.nq_logic.specs.Histories.{History}
use Rattle.nq_logic.specs.Ground.{symbols_of}
use Rattle.nq_logic.specs.Numerals.{number_of}
use Rattle.nq_logic.specs.Values.{is_tree_value}
use Rattle.nq_bank.specs.Parts.{occurs}
use Rattle.nq_goals.specs.Dropping.{shares}
use Rattle.nq_goals.specs.Recursion.{holds_recursive}
use Rattle.nq_logic.proofs.Basic.{detached, well_formed}
use Rattle.nq_logic.proofs.Patterns.{Part, No, Any, follows2, follows3}
use Rattle.nq_logic.proofs.Equality.{If, same, falsity_over, truth_over, holds_on, holds_back, if_over, truth_is_no_falsity}
use Rattle.nq_logic.proofs.Values.{not_over, not_holds, not_fails, implies_opened, if_holds_first, if_holds_second, first_holds, second_holds}
use Rattle.nq_goals.specs.declared.kinds.MoveKind.TheVariants.{Simp, Irr}
use Rattle.nq_goals.specs.declared.kinds.Cause.{Cause}
use Rattle.nq_goals.specs.declared.kinds.Cause.TheVariants.{False, NoInduction, Loop, Forbidden, Depth}
use Rattle.nq_proof.specs.Clauses.{Clause}
use Rattle.nq_goals.specs.Paths.{Above}
use Rattle.nq_goals.specs.Spent.{IsSpent}
use Rattle.nq_goals.specs.Normal.{IsNormal}
use Rattle.nq_goals.specs.Simplifying.{Simplifies}
use Rattle.nq_goals.specs.Moves.{simplifies, drops}
use Rattle.nq_goals.specs.Trees.{none, left, IsGoalAt, at_first, at_step, IsFailureTree}
use Rattle.nq_goals.specs.Forests.{Forest, Nothing, Goal, IsUnsolved}
use Rattle.nq_goals.specs.NormalExamples.{p, q, no_hints}
use Rattle.nq_goals.specs.SpentExamples.{implication, associates, TreeExamples}
use Rattle.nq_goals.proofs.SpentGoals.{spent_q}
use Rattle.nq_goals.proofs.Numbering.{unsolved_is_failure_tree}

module _ (h : History) (a b : Term) (oa : IsTerm (symbols_of h) a) (ob : IsTerm (symbols_of h) b) where
  abbrev inner : Term
  inner = if_term b true_term false_term

  abbrev whole : Term
  whole = if_term a inner true_term

  abbrev parts : List Formula
  parts = holds a ∷ holds b ∷ holds inner ∷ holds whole ∷ holds (implies_term a b) ∷ holds (not_term a) ∷ Equation false_term false_term ∷ holds true_term ∷ []

  oi : IsTerm (symbols_of h) inner
  oi = if_over h b true_term false_term ob (truth_over h) (falsity_over h)

  ow : IsTerm (symbols_of h) whole
  ow = if_over h a inner true_term oa oi (truth_over h)

  om : IsTerm (symbols_of h) (implies_term a b)
  om = (well_formed h _ (implies_opened h a b oa ob)).0

  overs : Each (IsFormula (symbols_of h)) parts
  overs =
      let f = falsity_over h in
      ((oa, f), ((ob, f), ((oi, f), ((ow, f), ((om, f), ((not_over h a oa, f), ((f, f), ((truth_over h, f), tt))))))))

  -- (IMPLIES a b) says that (NOT a) or b holds
  implication_simplifies : Simplifies h (implies_term a b ∷ []) ((not_term a ∷ b ∷ []) ∷ [])
  implication_simplifies =
      let f = falsity_over h in
      let t = truth_over h in
      let e = implies_opened h a b oa ob in
      let to = detached h (Equation (implies_term a b) whole) (implies (holds (implies_term a b)) (holds whole)) e (holds_on h (implies_term a b) whole om ow) in
      let from = detached h (Equation (implies_term a b) whole) (implies (holds whole) (holds (implies_term a b))) e (holds_back h (implies_term a b) whole om ow) in
      let no_b = follows2 h parts overs (If (No (Part 1)) (If (Part 2) (No (Part 6)))) (Part 6) (If (Part 2) (Part 1)) refl (second_holds h b true_term false_term ob t f) (same h false_term f) in
      let one = follows3 h parts overs (If (Part 4) (Part 3)) (If (Part 0) (If (Part 3) (Part 2))) (If (Part 2) (Part 1)) (If (Part 4) (If (Part 0) (Part 1))) refl to (first_holds h a inner true_term oa oi t) no_b in
      let forwards = follows2 h parts overs (If (Part 4) (If (Part 0) (Part 1))) (If (No (Part 0)) (Part 5)) (If (Part 4) (Any (Part 5) (Part 1))) refl one (not_holds h a oa) in
      let has_b = follows2 h parts overs (If (Part 1) (If (Part 7) (Part 2))) (Part 7) (If (Part 1) (Part 2)) refl (if_holds_first h b true_term false_term ob t f) (truth_is_no_falsity h) in
      let no_a = follows2 h parts overs (If (No (Part 0)) (If (Part 7) (Part 3))) (Part 7) (If (No (Part 0)) (Part 3)) refl (if_holds_second h a inner true_term oa oi t) (truth_is_no_falsity h) in
      let two = follows3 h parts overs (If (Part 1) (Part 2)) (If (Part 0) (If (Part 2) (Part 3))) (If (No (Part 0)) (Part 3)) (If (Part 1) (Part 3)) refl has_b (if_holds_first h a inner true_term oa oi t) no_a in
      let three = follows3 h parts overs (If (Part 1) (Part 3)) (If (No (Part 0)) (Part 3)) (If (Part 0) (No (Part 5))) (If (Any (Part 5) (Part 1)) (Part 3)) refl two no_a (not_fails h a oa) in
      let backwards = follows2 h parts overs (If (Any (Part 5) (Part 1)) (Part 3)) (If (Part 3) (Part 4)) (If (Any (Part 5) (Part 1)) (Part 4)) refl three from in
      record { each = (forwards, tt); together = backwards }

normal_disjunction : IsNormal [] no_hints (not_term p ∷ q ∷ [])
unfolding number_of is_tree_value
normal_disjunction = record { no_connective = refl; none_openable = refl; no_decided_test = refl; none_rewritable = refl; none_settled = refl }

-- the tree: the disjunction, and q below it
abbrev forest : Forest
forest = Goal Simp (not_term p ∷ q ∷ []) (Goal Irr (q ∷ []) Nothing Nothing) Nothing

unsolved : IsUnsolved [] no_hints [] (implication ∷ []) forest NoInduction
unfolding number_of is_tree_value shares occurs holds_recursive
unsolved = record {
  led = ((not_term p ∷ q ∷ []) ∷ [], simplifies (implication ∷ []) ((not_term p ∷ q ∷ []) ∷ []) (implication_simplifies [] p q tt tt) (normal_disjunction, tt) (refl, tt), left (not_term p ∷ q ∷ []) none);
  below = (
    refl,
    ((q ∷ []) ∷ [], drops (not_term p ∷ q ∷ []) ((q ∷ []) ∷ []) normal_disjunction (record { group = not_term p ∷ []; candidate = inl refl; leads = refl }), left (q ∷ []) none),
    (refl, (NoInduction, spent_q _), tt, tt),
    tt,
  );
  caused = spent_q _;
}

some_name : (n : List ℕ) (ns : List (List ℕ)) → n ∷ ns ≡ [] → ⊥
some_name n ns e = cc

some_term : (t : Term) (ts : List Term) → t ∷ ts ≡ [] → ⊥
some_term t ts e = cc

false_is_true : false ≡ true → ⊥
false_is_true e = cc

-- calls in the goal suggest an induction, none went before, and none is forbidden
not_spent : (cause : Cause) → IsSpent [] no_hints [] (associates ∷ []) cause → ⊥
not_spent False s = some_name _ _ s.holds.0.ground
not_spent NoInduction s = some_term _ _ s.holds.1
not_spent Loop s = absurd s.holds.1.inducted
not_spent Forbidden s = false_is_true s.holds.1
not_spent Depth s = absurd (omega (arith, s.holds.1))

-- without steps there is the first goal alone
alone : (first : Clause) (n : ℕ) (above : Above) (goal : Clause) → IsGoalAt first [] n above goal → (cause : Cause) → IsSpent [] no_hints above goal cause → IsSpent [] no_hints [] first cause
alone first n above goal at_first cause s = s
alone first n above goal (at_step k parent _ further from next e at) cause s = cc

no_empty_tree : (cause : Cause) → IsFailureTree [] no_hints (associates ∷ []) [] cause → ⊥
no_empty_tree cause t = not_spent cause (alone (associates ∷ []) t.caused.number t.caused.above t.caused.goal t.caused.stands cause t.caused.spent)

pub tree_examples : TreeExamples
tree_examples = record { not_spent = not_spent; no_empty_tree = no_empty_tree; implies_fails = unsolved_is_failure_tree [] no_hints (implication ∷ []) forest NoInduction unsolved }
