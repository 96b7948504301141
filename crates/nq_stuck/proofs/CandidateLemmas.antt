-- Where no move has a candidate.
use Rattle.std.proofs.Common.{◌≡◌, Bool, false, List, [], ◌∷◌, refl, sym, ◌∙◌}
use Rattle.nq_logic.specs.Histories.{History}
use Rattle.nq_proof.specs.Clauses.{Clause}
use Rattle.nq_events.specs.Events.{Hints}
use Rattle.nq_goals.specs.Dropping.{droppings_of}
use Rattle.nq_goals.specs.Fertilizing.{fertilizings_of}
use Rattle.nq_goals.specs.Generalizing.{generalizings_of}
use Rattle.nq_goals.specs.Moves.{HasNoCandidate}
use Rattle.nq_goals.specs.Substituting.{substitutions_of}
use Rattle.nq_stuck.specs.Candidates.{has_one}
use Rattle.nq_stuck.specs.Destructors.{EliminatesNone}
use Rattle.nq_stuck.specs.Left.{HasNoChange}

none_is : {X : Type 0} (xs : List X) → has_one xs ≡ false → xs ≡ []
none_is [] e = refl
none_is (x ∷ xs) e = absurd (cc)

pub none_changed : (h : History) (hints : Hints) (goal : Clause) (substitution : Bool) → substitution ≡ has_one (substitutions_of goal) → substitution ≡ false → fertilizings_of goal ≡ [] → EliminatesNone h goal →
    (general : Bool) → (general ≡ false → generalizings_of h hints goal ≡ []) → general ≡ false → HasNoChange h hints goal
none_changed h hints goal substitution told no_substitution fertile eliminated general generalized e =
    record {
      no_substituting = none_is (substitutions_of goal) (sym told ∙ no_substitution);
      no_eliminating = eliminated.none hints;
      no_fertilizing = fertile;
      no_generalizing = generalized e;
    }

-- and none of IRR
pub none_at_all : (h : History) (hints : Hints) (goal : Clause) → droppings_of h goal ≡ [] → HasNoChange h hints goal → HasNoCandidate h hints goal
none_at_all h hints goal dropped changed =
    record {
      no_substituting = changed.no_substituting;
      no_eliminating = changed.no_eliminating;
      no_fertilizing = changed.no_fertilizing;
      no_generalizing = changed.no_generalizing;
      no_dropping = dropped;
    }
