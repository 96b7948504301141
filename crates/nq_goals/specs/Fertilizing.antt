-- FERT: a hypothesis equation is used up. One side of it is replaced by the other in other literals.
use Rattle.std.specs.Prelude.{◌≡◌, Bool, true, false, ◌&&◌, not, List, [], ◌∷◌, ◌++◌}
use Rattle.nq_logic.specs.Terms.{Term, IsAmong}
use Rattle.nq_logic.specs.Histories.{History}
use Rattle.nq_logic.specs.RuleShapes.{is_call}
use Rattle.nq_logic.specs.Values.{is_value}
use Rattle.nq_proof.specs.Clauses.{Clause, without, distinct}
use Rattle.nq_events.specs.Events.{Hints}
use Rattle.nq_goals.specs.Equations.{Equation, readings}
use Rattle.nq_goals.specs.Replacing.{stands_in_one, AreReplacedOnce}

-- a literal that denies an equation, the side that is replaced, and the other side
pub record Fertilizing : Type 0 where
  pub literal : Term
  pub from : Term
  pub into : Term

-- the left side is neither variable nor value, and stands in another literal
abbrev pub can_fertilize : Clause → Term → Equation → Bool
can_fertilize goal literal e = is_call e.left && not (is_value e.left) && stands_in_one e.left (without literal goal)

abbrev pub from_readings : Clause → Term → List Equation → List Fertilizing
from_readings goal literal [] = []
from_readings goal literal (e ∷ es) =
    elim (can_fertilize goal literal e) as (λ b. List Fertilizing) [
      | true ↦ record { literal = literal; from = e.left; into = e.right } ∷ from_readings goal literal es
      | false ↦ from_readings goal literal es
    ]

abbrev pub from_literals : Clause → Clause → List Fertilizing
from_literals goal [] = []
from_literals goal (l ∷ c) = from_readings goal l (readings l) ++ from_literals goal c

-- all candidates of a goal, in the order of its literals
abbrev pub fertilizings_of : Clause → List Fertilizing
fertilizings_of goal = from_literals goal goal

abbrev pub FertilizeCandidate : History → Hints → Clause → Fertilizing → Type 0
FertilizeCandidate h hints goal f = IsAmong f (fertilizings_of goal)

-- the move leads from the goal to these goals alone: to the goal without the equation, where the one side is replaced by the
-- other at one or more places
pub record FertilizeMove (h : History) (hints : Hints) (path : List Clause) (goal : Clause) (nexts : List Clause) : Type 0 where
  pub chosen : Fertilizing
  pub candidate : FertilizeCandidate h hints goal chosen
  pub literals : List Term
  pub replaced : AreReplacedOnce chosen.from chosen.into (without chosen.literal goal) literals
  pub leads : nexts ≡ distinct literals ∷ []
