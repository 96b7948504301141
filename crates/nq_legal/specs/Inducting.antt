-- Inductions by the calls of a goal.
use Rattle.std.specs.Prelude.{◌≡◌, List}
use Rattle.nq_logic.specs.Terms.{Term}
use Rattle.nq_logic.specs.Histories.{History}
use Rattle.nq_goals.specs.Inducting.{Scheme, IsScheme, goals_of_scheme, suggesting_in}

-- these are the goals of an induction on the goal by a scheme that these calls suggest
pub record IsInductionBy (h : History) (calls goal : List Term) (nexts : List (List Term)) : Type 0 where
  pub scheme : Scheme
  pub suggested : IsScheme h calls scheme
  pub next : nexts ≡ goals_of_scheme goal scheme

-- the same by a scheme that the calls of the goal suggest
abbrev pub IsInduction : History → List Term → List (List Term) → Type 0
IsInduction h goal nexts = IsInductionBy h (suggesting_in h goal) goal nexts
