-- Laws of goals that stand for a goal.
use Rattle.std.specs.Prelude.{List, [], ◌∷◌, ◌⊎◌}
use Rattle.nq_logic.specs.Terms.{Term, IsTerm, IsAmong}
use Rattle.nq_logic.specs.Words.{equal_term}
use Rattle.nq_logic.specs.Formulas.{implies, clause}
use Rattle.nq_logic.specs.Histories.{History}
use Rattle.nq_logic.specs.Ground.{symbols_of}
use Rattle.nq_logic.specs.Derivations.{Derivable}
use Rattle.nq_logic.specs.Laws.{IsClause, IsWithin}
use Rattle.nq_cases.specs.Simplifying.{Simplifies}
use Rattle.nq_cases.specs.Splits.{SplitsTo, AreCasesOf}

-- a goal implies each goal with a literal b in the place of its literal a, where (EQUAL a b) or (EQUAL b a) is derivable
-- beside the other literals
abbrev pub ReplacedLiteral : Type 0
ReplacedLiteral =
    (h : History) (a b : Term) (e c d : List Term) → Derivable h (clause e) → IsTerm (symbols_of h) a → IsTerm (symbols_of h) b → IsClause h d →
    IsWithin e (equal_term a b ∷ []) d ⊎ IsWithin e (equal_term b a ∷ []) d → IsWithin c (a ∷ []) d → IsAmong b d → Derivable h (implies (clause c) (clause d))

-- a goal with one literal replaced stands for the goal
abbrev pub RewritingSimplifies : Type 0
RewritingSimplifies =
    (h : History) (a b : Term) (e goal next : List Term) → Derivable h (clause e) → IsTerm (symbols_of h) a → IsTerm (symbols_of h) b → IsClause h goal → IsClause h next →
    IsWithin e (equal_term a b ∷ []) goal → IsWithin e (equal_term a b ∷ []) next → IsAmong a goal → IsAmong b next → IsWithin goal (a ∷ []) next → IsWithin next (b ∷ []) goal →
    Simplifies h goal (next ∷ [])

-- the cases of a term together are equivalent to it
abbrev pub CasesSimplify : Type 0
CasesSimplify = (h : History) (t : Term) (cases : List (List Term)) → IsTerm (symbols_of h) t → AreCasesOf t cases → Simplifies h (t ∷ []) cases

-- the goals at which splits of a goal end stand for it
abbrev pub SplitsSimplify : Type 0
SplitsSimplify = (h : History) (goal : List Term) (nexts : List (List Term)) → IsClause h goal → SplitsTo goal nexts → Simplifies h goal nexts
