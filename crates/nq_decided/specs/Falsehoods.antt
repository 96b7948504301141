-- The clauses of the assignments under which a proposition over variables is false.
use Rattle.std.specs.Prelude.{if◌then◌else◌, List, [], ◌∷◌, ◌++◌}
use Rattle.nq_logic.specs.Terms.{Term, IsAmong, Each, IsTerm}
use Rattle.nq_logic.specs.Words.{not_term}
use Rattle.nq_logic.specs.Histories.{History}
use Rattle.nq_logic.specs.Ground.{symbols_of}
use Rattle.nq_proof.specs.Clauses.{Clause, has_term}
use Rattle.nq_fragments.specs.Propositions.{Proposition, truth_of, proposition_of, others_in}
use Rattle.nq_goals.specs.Simplifying.{Simplifies}

-- For each way to make these terms true or false besides those that are true, the clause of it, where the proposition is false
-- then. A clause has the NOT of each term that is true, and each term that is false. These literals stand in it already.
abbrev pub false_clauses : List Term → (trues literals : List Term) → Proposition → List Clause
false_clauses [] trues literals p = if truth_of (λ t. has_term t trues) p then [] else literals ∷ []
false_clauses (t ∷ ts) trues literals p = false_clauses ts (trues ++ t ∷ []) (literals ++ not_term t ∷ []) p ++ false_clauses ts trues (literals ++ t ∷ []) p

-- a proposition says what these clauses say together, where each other term of it is among the terms
abbrev pub FalsehoodsSimplify : Type 0
FalsehoodsSimplify =
    (h : History) (ts : List Term) (t : Term) → IsTerm (symbols_of h) t → Each (IsTerm (symbols_of h)) ts → ((u : Term) → IsAmong u (others_in (proposition_of t)) → IsAmong u ts) →
    Simplifies h (t ∷ []) (false_clauses ts [] [] (proposition_of t))
