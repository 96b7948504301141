-- The laws of arithmetic that the layers above cite by name.
use Rattle.std.specs.Prelude.{[], ◌∷◌}
use Rattle.nq_logic.specs.Words.{call1, call2, equal_term, not_term}
use Rattle.nq_logic.specs.Ground.{symbols_of, x_term, y_term, z_term}
use Rattle.nq_logic.specs.Formulas.{clause}
use Rattle.nq_logic.specs.Terms.{Term, IsTerm}
use Rattle.nq_logic.specs.Histories.{History}
use Rattle.nq_logic.specs.Derivations.{Derivable}

abbrev pub plus : Term → Term → Term
plus a b = call2 "PLUS" a b

abbrev pub SumIsNumber : Type 0
SumIsNumber = (h : History) → Derivable h (clause (call1 "NUMBERP" (plus x_term y_term) ∷ []))

abbrev pub SumCommutes : Type 0
SumCommutes = (h : History) → Derivable h (clause (equal_term (plus x_term y_term) (plus y_term x_term) ∷ []))

abbrev pub SumAssociates : Type 0
SumAssociates = (h : History) → Derivable h (clause (equal_term (plus (plus x_term y_term) z_term) (plus x_term (plus y_term z_term)) ∷ []))

abbrev pub LessIsIrreflexive : Type 0
LessIsIrreflexive = (h : History) → Derivable h (clause (not_term (call2 "LESSP" x_term x_term) ∷ []))

-- what may serve as a measure: the size of any term, and any term as a number
abbrev pub SizeIsOrdinal : Type 0
SizeIsOrdinal = (h : History) (t : Term) → IsTerm (symbols_of h) t → Derivable h (clause (call1 "ORDINALP" (call1 "COUNT" t) ∷ []))

abbrev pub NumberIsOrdinal : Type 0
NumberIsOrdinal = (h : History) (t : Term) → IsTerm (symbols_of h) t → Derivable h (clause (call1 "ORDINALP" (call1 "FIX" t) ∷ []))

abbrev pub less : Term → Term → Term
less a b = call2 "LESSP" a b

abbrev pub size : Term → Term
size a = call1 "COUNT" a

abbrev pub LessIsTransitive : Type 0
LessIsTransitive = (h : History) → Derivable h (clause (not_term (less y_term z_term) ∷ not_term (less x_term y_term) ∷ less x_term z_term ∷ []))

abbrev pub SumIsMonotone : Type 0
SumIsMonotone = (h : History) → Derivable h (clause (equal_term (less (plus x_term y_term) (plus x_term z_term)) (less y_term z_term) ∷ []))

abbrev pub ProductDistributes : Type 0
ProductDistributes =
    (h : History) → Derivable h (clause (equal_term (call2 "TIMES" x_term (plus y_term z_term)) (plus (call2 "TIMES" x_term y_term) (call2 "TIMES" x_term z_term)) ∷ []))

abbrev pub OrdinalLessIsLess : Type 0
OrdinalLessIsLess =
    (h : History) → Derivable h (clause (call1 "LISTP" y_term ∷ call1 "LISTP" x_term ∷ equal_term (call2 "ORD-LESSP" x_term y_term) (less x_term y_term) ∷ []))

abbrev pub FirstIsSmaller : Type 0
FirstIsSmaller = (h : History) → Derivable h (clause (not_term (call1 "LISTP" x_term) ∷ less (size (call1 "CAR" x_term)) (size x_term) ∷ []))

abbrev pub RestIsSmaller : Type 0
RestIsSmaller = (h : History) → Derivable h (clause (not_term (call1 "LISTP" x_term) ∷ less (size (call1 "CDR" x_term)) (size x_term) ∷ []))
