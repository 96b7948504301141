-- SUBST: a hypothesis equation of a variable and a term without it is used up. The variable is replaced by the term.
use Rattle.std.specs.Prelude.{◌≡◌, ℕ, List, [], ◌∷◌, ◌++◌, map, if◌then◌else◌}
use Rattle.nq_logic.specs.Terms.{Term, Variable, Function, Applied, IsAmong, substituted}
use Rattle.nq_logic.specs.Histories.{History}
use Rattle.nq_bank.specs.Parts.{occurs}
use Rattle.nq_proof.specs.Clauses.{Clause, without, distinct}
use Rattle.nq_events.specs.Events.{Hints}
use Rattle.nq_goals.specs.Equations.{Equation, readings}

-- a literal that denies an equation, a variable that is one of its sides, and the other side
pub record Substituting : Type 0 where
  pub literal : Term
  pub variable : List ℕ
  pub term : Term

-- what an equation gives: its left side is a variable, which does not stand in its right side
abbrev pub from_sides : Term → Term → Term → List Substituting
from_sides literal (Variable v) t = if occurs v t then [] else record { literal = literal; variable = v; term = t } ∷ []
from_sides literal (Function f) t = []
from_sides literal (Applied f u) t = []

abbrev pub from_readings : Term → List Equation → List Substituting
from_readings literal [] = []
from_readings literal (e ∷ es) = from_sides literal e.left e.right ++ from_readings literal es

abbrev pub from_literals : Clause → List Substituting
from_literals [] = []
from_literals (l ∷ c) = from_readings l (readings l) ++ from_literals c

-- all candidates of a goal, in the order of its literals; of one literal, those of its left side first
abbrev pub substitutions_of : Clause → List Substituting
substitutions_of goal = from_literals goal

-- the goal without the equation, with the term in place of the variable
abbrev pub substituted_goal : Substituting → Clause → Clause
substituted_goal s goal = distinct (map (substituted ((s.variable, s.term) ∷ [])) (without s.literal goal))

-- s is a candidate in the goal; neither history nor hints matter
abbrev pub SubstituteCandidate : History → Hints → Clause → Substituting → Type 0
SubstituteCandidate h hints goal s = IsAmong s (substitutions_of goal)

-- the move leads from the goal to these goals alone
pub record SubstituteMove (h : History) (hints : Hints) (path : List Clause) (goal : Clause) (nexts : List Clause) : Type 0 where
  pub chosen : Substituting
  pub candidate : SubstituteCandidate h hints goal chosen
  pub leads : nexts ≡ substituted_goal chosen goal ∷ []
