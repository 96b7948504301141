-- Lemmas that are decided whatever the step limit.
use Rattle.std.specs.Prelude.{◌≡◌, [], ◌∷◌, codes}
use Rattle.nq_logic.specs.Terms.{Term}
use Rattle.nq_logic.specs.Words.{variable, call1, equal_term, not_term, implies_term}
use Rattle.nq_logic.specs.Histories.{History, Declaration, Axiom}
use Rattle.nq_logic.specs.Shells.{either_of}
use Rattle.nq_fragments.specs.Tautologies.{IsSmallTautology}
use Rattle.nq_events.specs.Events.{Hints}
use Rattle.nq_goals.specs.Hints.{first_goal}
use Rattle.nq_goals.specs.Decided.{IsSmallFalsehood, HasNoHint}
use Rattle.nq_goals.specs.NormalExamples.{p, q, x, plus, no_hints}

-- two steps of a chain, as axioms on functions that are declared
abbrev pub step_of : Term → Term → Term
step_of a b = implies_term a b

abbrev pub chain : History
chain =
    Declaration (codes "P1") 1
    ∷ Declaration (codes "Q1") 1
    ∷ Declaration (codes "R1") 1
    ∷ Axiom (codes "AX1") [] (step_of (call1 "P1" x) (call1 "Q1" x))
    ∷ Axiom (codes "AX2") [] (step_of (call1 "Q1" x) (call1 "R1" x))
    ∷ []

abbrev pub a : Term
a = variable "A"

-- USE both, each for A
abbrev pub both_steps : Hints
both_steps = record no_hints { instances = record { name = codes "AX1"; pairs = (codes "X", a) ∷ [] } ∷ record { name = codes "AX2"; pairs = (codes "X", a) ∷ [] } ∷ [] }

abbrev pub whole_step : Term
whole_step = step_of (call1 "P1" a) (call1 "R1" a)

pub record DecidedExamples : Type 0 where
  -- the first goal of the chain, which is a tautology: such a lemma is hinted
  pub first :
      first_goal chain both_steps whole_step
      ≡ (not_term (step_of (call1 "P1" a) (call1 "Q1" a)) ∷ not_term (step_of (call1 "Q1" a) (call1 "R1" a)) ∷ whole_step ∷ [])
  pub tautology : IsSmallTautology (either_of (first_goal chain both_steps whole_step))
  -- without the second hint it is none
  pub no_tautology : IsSmallTautology (either_of (first_goal chain no_hints whole_step)) → ⊥
  -- a proposition over variables that is false for some truth of them, and others
  pub falsehood : IsSmallFalsehood (implies_term p q)
  pub no_falsehood : IsSmallFalsehood (implies_term p p) → ⊥
  pub no_variables : IsSmallFalsehood (implies_term p (equal_term p q)) → ⊥
  pub free : HasNoHint no_hints
  pub hinted : HasNoHint both_steps → ⊥
