-- Goals from which only an induction can lead on.
use Rattle.std.specs.Prelude.{◌≡◌, List, []}
use Rattle.nq_logic.specs.Terms.{Term}
use Rattle.nq_logic.specs.Histories.{History}
use Rattle.nq_events.specs.Events.{Hints}
use Rattle.nq_goals.specs.Eliminating.{Eliminating, EliminateCandidate}
use Rattle.nq_goals.specs.Fertilizing.{fertilizings_of}
use Rattle.nq_goals.specs.Generalizing.{generalizings_of}
use Rattle.nq_goals.specs.Moves.{HasNoCandidate}
use Rattle.nq_goals.specs.Normal.{IsNormal}
use Rattle.nq_goals.specs.Substituting.{substitutions_of}

-- it is in normal form, and no move other than simplification and induction has a candidate in it
pub record IsLeftToInduction (h : History) (hints : Hints) (goal : List Term) : Type 0 where
  pub normal : IsNormal h hints goal
  pub none : HasNoCandidate h hints goal

-- no candidate of SUBST, ELIM, FERT or GEN
pub record HasNoChange (h : History) (hints : Hints) (goal : List Term) : Type 0 where
  pub no_substituting : substitutions_of goal ≡ []
  pub no_eliminating : (e : Eliminating) → EliminateCandidate h hints goal e → ⊥
  pub no_fertilizing : fertilizings_of goal ≡ []
  pub no_generalizing : generalizings_of h hints goal ≡ []

-- it is in normal form, and of the moves other than simplification and induction only IRR may have a candidate in it
pub record IsLeftToGroups (h : History) (hints : Hints) (goal : List Term) : Type 0 where
  pub normal : IsNormal h hints goal
  pub none : HasNoChange h hints goal
