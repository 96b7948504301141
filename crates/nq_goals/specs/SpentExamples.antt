-- Goals that are left over, one for each cause, and the tree of a failure.
use Rattle.std.specs.Prelude.{true, List, [], ◌∷◌}
use Rattle.nq_logic.specs.Terms.{Term}
use Rattle.nq_logic.specs.Words.{variable, call2, true_term, false_term, equal_term, not_term, implies_term}
use Rattle.nq_events.specs.Events.{Hints}
use Rattle.nq_goals.specs.declared.kinds.MoveKind.TheVariants.{Simp, Irr, Ind}
use Rattle.nq_goals.specs.declared.kinds.Cause.{Cause}
use Rattle.nq_goals.specs.declared.kinds.Cause.TheVariants.{False, NoInduction, Loop, Forbidden, Depth}
use Rattle.nq_goals.specs.Paths.{Above, Passed, passed}
use Rattle.nq_goals.specs.Spent.{IsSpent}
use Rattle.nq_goals.specs.Trees.{Step, IsFailureTree}
use Rattle.nq_goals.specs.NormalExamples.{p, q, x, y, plus, no_hints}

-- the path holds an induction on (PLUS X Y)
abbrev pub once_inducted : Above
once_inducted = passed (plus x y ∷ []) Ind ∷ []

-- the path holds twelve inductions on (TIMES X Y)
abbrev pub times : Passed
times = passed (call2 "TIMES" x y ∷ []) Ind

abbrev pub often_inducted : Above
often_inducted = times ∷ times ∷ times ∷ times ∷ times ∷ times ∷ times ∷ times ∷ times ∷ times ∷ times ∷ times ∷ []

abbrev pub not_to_induct : Hints
not_to_induct = record no_hints { no_induct = true }

pub record SpentExamples : Type 0 where
  pub empty : IsSpent [] no_hints [] [] False
  pub ground : IsSpent [] no_hints [] (equal_term true_term false_term ∷ []) False
  pub nothing_suggested : IsSpent [] no_hints [] (q ∷ []) NoInduction
  -- without the hint it would be led on by an induction
  pub forbidden : IsSpent [] not_to_induct [] (plus x y ∷ []) Forbidden
  pub loop : IsSpent [] no_hints once_inducted (plus p q ∷ []) Loop
  pub deep : IsSpent [] no_hints often_inducted (plus x y ∷ []) Depth

abbrev pub append : Term → Term → Term
append a b = call2 "APPEND" a b

-- (IMPLIES P Q) is simplified to (NOT P), Q, of which the first is dropped: Q is left over
abbrev pub implication : Term
implication = implies_term p q

abbrev pub failed_steps : List Step
failed_steps = record { parent = 0; kind = Simp; goal = not_term p ∷ q ∷ [] } ∷ record { parent = 1; kind = Irr; goal = q ∷ [] } ∷ []

-- (APPEND (APPEND X Y) Z) is (APPEND X (APPEND Y Z)): calls in it suggest an induction
abbrev pub associates : Term
associates = equal_term (append (append x y) (variable "Z")) (append x (append y (variable "Z")))

pub record TreeExamples : Type 0 where
  -- it isn't left over, so no failure has it without a step
  pub not_spent : (cause : Cause) → IsSpent [] no_hints [] (associates ∷ []) cause → ⊥
  pub no_empty_tree : (cause : Cause) → IsFailureTree [] no_hints (associates ∷ []) [] cause → ⊥
  pub implies_fails : IsFailureTree [] no_hints (implication ∷ []) failed_steps NoInduction
