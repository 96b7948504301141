-- The nest of a goal whose literals but the last are denials: a right nest of IF, which is true exactly where the right nest of
-- OR of the literals is.
use Rattle.std.specs.Prelude.{◌≡◌, ℕ, List, [], ◌∷◌, ⊤}
use Rattle.nq_logic.specs.Terms.{Term, Variable, Function, Applied}
use Rattle.nq_logic.specs.Words.{not_term, if_term, true_term}
use Rattle.nq_kernel.specs.declared.work.Work.{Work}
use Rattle.nq_lines.specs.Lines.{AreAmong, LineHasOnly}

-- what a literal denies
abbrev pub denied_by : Term → Term
denied_by (Variable x) = Variable x
denied_by (Function f) = Function f
denied_by (Applied t u) = u

-- where what the first literal denies holds, the nest of the others, and else T
abbrev pub nest : Term → List Term → Term
nest t [] = t
nest t (u ∷ c) = if_term (denied_by t) (nest u c) true_term

-- each literal but the last is a NOT
abbrev pub AreDenials : Term → List Term → Type 0
AreDenials t [] = ⊤
AreDenials t (u ∷ c) = (t ≡ not_term (denied_by t)) × AreDenials u c

-- the term is an IF
pub record IsChoice (t : Term) : Type 0 where
  pub test : Term
  pub first : Term
  pub second : Term
  pub is : t ≡ if_term test first second

-- line n has only these literals, and others that another line has beside their nest
abbrev pub OpensTo : Work → Work → Term → List Term → ℕ → ℕ → Type 0
OpensTo old new t c line n = (all : List Term) → AreAmong (t ∷ c) all → LineHasOnly old line (nest t c ∷ all) → LineHasOnly new n all
