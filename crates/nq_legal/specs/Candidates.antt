-- Goals in which moves have no candidate.
use Rattle.std.specs.Prelude.{◌≡◌, List, []}
use Rattle.nq_logic.specs.Terms.{Term}
use Rattle.nq_logic.specs.Histories.{History}
use Rattle.nq_events.specs.Events.{Hints}
use Rattle.nq_goals.specs.Dropping.{droppings_of}
use Rattle.nq_goals.specs.Fertilizing.{fertilizings_of}
use Rattle.nq_goals.specs.Generalizing.{generalizings_of}
use Rattle.nq_goals.specs.Substituting.{substitutions_of}

-- no candidate of GEN or IRR
pub record HasNoneLess (h : History) (hints : Hints) (goal : List Term) : Type 0 where
  pub no_generalizing : generalizings_of h hints goal ≡ []
  pub no_dropping : droppings_of h goal ≡ []

-- no candidate of SUBST, FERT, GEN or IRR
pub record HasNoneOfFour (h : History) (hints : Hints) (goal : List Term) : Type 0 where
  pub no_substituting : substitutions_of goal ≡ []
  pub no_fertilizing : fertilizings_of goal ≡ []
  pub no_generalizing : generalizings_of h hints goal ≡ []
  pub no_dropping : droppings_of h goal ≡ []
