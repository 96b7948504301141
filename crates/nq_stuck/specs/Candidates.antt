-- Whether there are candidates.
use Rattle.std.specs.Prelude.{Bool, true, false, ◌&&◌, not, List, [], ◌∷◌}
use Rattle.nq_logic.specs.Terms.{Term}
use Rattle.nq_logic.specs.RuleShapes.{is_call}
use Rattle.nq_logic.specs.Values.{is_value}
use Rattle.nq_proof.specs.Clauses.{Clause, without}
use Rattle.nq_goals.specs.Replacing.{stands_in_one}

abbrev pub has_one : {X : Type 0} → List X → Bool
has_one [] = false
has_one (x ∷ xs) = true

-- the side of an equation that a literal denies is neither variable nor value, and stands in another literal
abbrev pub can_replace : Clause → Term → Term → Bool
can_replace goal literal side = is_call side && not (is_value side) && stands_in_one side (without literal goal)
