-- Goals to which a simplification may lead.
use Rattle.std.specs.Prelude.{List}
use Rattle.nq_logic.specs.Terms.{Term, Each}
use Rattle.nq_logic.specs.Histories.{History}
use Rattle.nq_events.specs.Events.{Hints}
use Rattle.nq_goals.specs.Moves.{IsWithoutCopies}
use Rattle.nq_goals.specs.Normal.{IsNormal}

-- in normal form, and each literal is there once
pub record IsPlain (h : History) (hints : Hints) (goal : List Term) : Type 0 where
  pub normal : IsNormal h hints goal
  pub once : IsWithoutCopies goal

-- so is each of these goals
pub record ArePlain (h : History) (hints : Hints) (goals : List (List Term)) : Type 0 where
  pub normal : Each (IsNormal h hints) goals
  pub once : Each IsWithoutCopies goals
