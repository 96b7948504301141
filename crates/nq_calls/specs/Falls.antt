-- That a measure falls at a call, as a clause.
use Rattle.std.specs.Prelude.{Bool, true, false, ◌||◌, List, [], ◌∷◌, ◌++◌, map}
use Rattle.nq_logic.specs.Terms.{Name, Term, substituted}
use Rattle.nq_logic.specs.Words.{call2, not_term}
use Rattle.nq_logic.specs.Admissible.{mentions, Call, matched}
use Rattle.nq_bank.specs.Parts.{occurs}

-- the measure at the arguments of a call
abbrev pub smaller_at : List Name → Term → Call → Term
smaller_at xs m c = substituted (matched xs c.arguments) m

-- the tests are false, or the first is below the second
abbrev pub fall_clause : Term → Term → List Term → List Term
fall_clause smaller m tests = map not_term tests ++ (call2 "ORD-LESSP" smaller m ∷ [])

-- The obligation of a call all whose tests count: for a counted call it is that of the Definition Principle.
abbrev pub obligation_at : List Name → Term → Call → List Term
obligation_at xs m c = fall_clause (smaller_at xs m c) m c.tests

-- which formals stand in the measure
abbrev pub uses_of : List Name → Term → List Bool
uses_of xs m = map (λ x. occurs x m) xs

-- whether the function stands in the argument of a formal that is used
abbrev pub is_in_used : Name → List Bool → List Term → Bool
is_in_used f [] ts = false
is_in_used f (used ∷ uses) [] = false
is_in_used f (true ∷ uses) (t ∷ ts) = mentions f t || is_in_used f uses ts
is_in_used f (false ∷ uses) (t ∷ ts) = is_in_used f uses ts
