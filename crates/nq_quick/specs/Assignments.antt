-- Assignments of truth to terms, each as the list of those that are true.
use Rattle.std.specs.Prelude.{Bool, ◌&&◌, List, [], ◌∷◌, ◌++◌}
use Rattle.nq_logic.specs.Terms.{Term}
use Rattle.nq_proof.specs.Clauses.{has_term}
use Rattle.nq_fragments.specs.Propositions.{Proposition, truth_of}

-- the truth of a proposition where just these of the other terms are true
abbrev pub truth_with : List Term → Proposition → Bool
truth_with trues p = truth_of (λ t. has_term t trues) p

-- whether the proposition is true where the terms are true or false in each way, and these besides are true
abbrev pub true_in_all : List Term → List Term → Proposition → Bool
true_in_all [] trues p = truth_with trues p
true_in_all (t ∷ ts) trues p = true_in_all ts (trues ++ t ∷ []) p && true_in_all ts trues p
