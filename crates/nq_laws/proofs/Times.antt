-- Laws of TIMES in the ground history, each by a log over earlier ones, and at terms of any history.
use Rattle.std.proofs.Common.{List, [], ◌∷◌, refl}
use Rattle.std.specs.Prelude.{codes}
use Rattle.nq_logic.specs.Terms.{Term, IsTerm}
use Rattle.nq_logic.specs.Words.{variable, call0, call1, call2, call3}
use Rattle.nq_logic.specs.Histories.{History}
use Rattle.nq_logic.specs.Ground.{symbols_of}
use Rattle.nq_logic.specs.Numerals.{number_of}
use Rattle.nq_logic.specs.Formulas.{clause}
use Rattle.nq_logic.specs.Derivations.{Derivable}
use Rattle.nq_proof.specs.Rules.{Taut, AxiomRow, Cut, Instance, Reflexive, Replace, Induct, Forwards, Backwards}
use Rattle.nq_proof.specs.Logs.{LogLine, Ruled}
use Rattle.nq_proof.proofs.SoundLogs.{everywhere, grown}
use Rattle.nq_proof.proofs.ByLaw.{by_law}
use Rattle.nq_laws.specs.Laws.{AreDerivable}
use Rattle.nq_logic.proofs.Symbols.{add1_symbol, equal_symbol, plus_symbol, times_symbol, zero_symbol}
use Rattle.nq_laws.specs.Times.{product_at_zero_clause, product_at_positive_clause, sum_exchanges_clause, product_distributes_clause, product_of_zero_clause, product_step_clause, laws_of_times}
use Rattle.nq_laws.specs.Zero.{zero_is_zero_clause, fix_of_zero_clause, add1_is_not_zero_clause}
use Rattle.nq_laws.proofs.Zero.{zero_is_zero, fix_of_zero, add1_is_not_zero}
use Rattle.nq_laws.specs.Ordinals.{size_is_ordinal_clause, size_falls_clause}
use Rattle.nq_laws.proofs.Ordinals.{size_is_ordinal, size_falls}
use Rattle.nq_laws.specs.Plus.{sum_at_zero_clause}
use Rattle.nq_laws.proofs.Plus.{sum_at_zero}
use Rattle.nq_laws.specs.PlusOrder.{sum_commutes_clause, sum_associates_clause}
use Rattle.nq_laws.proofs.PlusOrder.{sum_commutes, sum_associates}

-- (NOT (ZEROP X)), (EQUAL (TIMES X Y) 0)
abbrev product_at_zero_log : List LogLine
product_at_zero_log =
    Ruled (AxiomRow (codes "IF") 2 0)
    ∷ Ruled (Reflexive (call0 "ZERO"))
    ∷ Ruled (AxiomRow (codes "TIMES") 1 0)
    ∷ Ruled (Instance 1 ((codes "X", (call1 "ZEROP" (variable "X"))) ∷ (codes "Y", (call0 "ZERO")) ∷ (codes "Z", (call2 "PLUS" (variable "Y") (call2 "TIMES" (call1 "SUB1" (variable "X")) (variable "Y")))) ∷ []))
    ∷ Ruled (Replace 2 1 (1 ∷ []) (call3 "IF" (call1 "ZEROP" (variable "X")) (call0 "ZERO") (call2 "PLUS" (variable "Y") (call2 "TIMES" (call1 "SUB1" (variable "X")) (variable "Y")))) Backwards)
    ∷ Ruled (Cut 4 5 (call2 "EQUAL" (call3 "IF" (call1 "ZEROP" (variable "X")) (call0 "ZERO") (call2 "PLUS" (variable "Y") (call2 "TIMES" (call1 "SUB1" (variable "X")) (variable "Y")))) (call0 "ZERO")))
    ∷ Ruled (Replace 6 2 (1 ∷ []) (call2 "TIMES" (variable "X") (variable "Y")) Backwards)
    ∷ Ruled (Cut 3 7 (call2 "EQUAL" (call2 "TIMES" (variable "X") (variable "Y")) (call3 "IF" (call1 "ZEROP" (variable "X")) (call0 "ZERO") (call2 "PLUS" (variable "Y") (call2 "TIMES" (call1 "SUB1" (variable "X")) (variable "Y")))))) ∷ []

pub product_at_zero : Derivable [] (clause product_at_zero_clause)
unfolding symbols_of number_of
product_at_zero = everywhere [] product_at_zero_log product_at_zero_clause refl tt refl

pub product_at_zero_at : (h : History) (x y : Term) → IsTerm (symbols_of h) x → IsTerm (symbols_of h) y → Derivable h (clause ((call1 "ZEROP" x) ∷ [])) → Derivable h (clause ((call2 "EQUAL" (call2 "TIMES" x y) (call0 "ZERO")) ∷ []))
product_at_zero_at h x y ox oy d1 =
    by_law h ((call1 "ZEROP" (variable "X")) ∷ []) (call2 "EQUAL" (call2 "TIMES" (variable "X") (variable "Y")) (call0 "ZERO")) ((codes "X", x) ∷ (codes "Y", y) ∷ []) (grown product_at_zero_clause product_at_zero h) (d1, tt) ((equal_symbol h, ((times_symbol h, ox), oy)), (zero_symbol h))

-- (ZEROP X), (EQUAL (TIMES X Y) (PLUS Y (TIMES (SUB1 X) Y)))
abbrev product_at_positive_log : List LogLine
product_at_positive_log =
    Ruled (AxiomRow (codes "IF") 1 0)
    ∷ Ruled (AxiomRow (codes "TIMES") 1 0)
    ∷ Ruled (Instance 1 ((codes "X", (call1 "ZEROP" (variable "X"))) ∷ (codes "Y", (call0 "ZERO")) ∷ (codes "Z", (call2 "PLUS" (variable "Y") (call2 "TIMES" (call1 "SUB1" (variable "X")) (variable "Y")))) ∷ []))
    ∷ Ruled (Reflexive (call2 "PLUS" (variable "Y") (call2 "TIMES" (call1 "SUB1" (variable "X")) (variable "Y"))))
    ∷ Ruled (Replace 4 1 (1 ∷ []) (call3 "IF" (call1 "ZEROP" (variable "X")) (call0 "ZERO") (call2 "PLUS" (variable "Y") (call2 "TIMES" (call1 "SUB1" (variable "X")) (variable "Y")))) Backwards)
    ∷ Ruled (Cut 3 5 (call2 "EQUAL" (call3 "IF" (call1 "ZEROP" (variable "X")) (call0 "ZERO") (call2 "PLUS" (variable "Y") (call2 "TIMES" (call1 "SUB1" (variable "X")) (variable "Y")))) (call2 "PLUS" (variable "Y") (call2 "TIMES" (call1 "SUB1" (variable "X")) (variable "Y")))))
    ∷ Ruled (Replace 6 2 (1 ∷ []) (call2 "TIMES" (variable "X") (variable "Y")) Backwards)
    ∷ Ruled (Cut 2 7 (call2 "EQUAL" (call2 "TIMES" (variable "X") (variable "Y")) (call3 "IF" (call1 "ZEROP" (variable "X")) (call0 "ZERO") (call2 "PLUS" (variable "Y") (call2 "TIMES" (call1 "SUB1" (variable "X")) (variable "Y")))))) ∷ []

pub product_at_positive : Derivable [] (clause product_at_positive_clause)
unfolding symbols_of number_of
product_at_positive = everywhere [] product_at_positive_log product_at_positive_clause refl tt refl

-- (EQUAL (PLUS X (PLUS Y Z)) (PLUS Y (PLUS X Z)))
abbrev sum_exchanges_log : List LogLine
sum_exchanges_log =
    Ruled (Reflexive (call2 "PLUS" (call2 "PLUS" (variable "X") (variable "Y")) (variable "Z")))
    ∷ Ruled (Replace 3 1 (1 ∷ []) (call2 "PLUS" (variable "X") (call2 "PLUS" (variable "Y") (variable "Z"))) Forwards)
    ∷ Ruled (Cut 2 4 (call2 "EQUAL" (call2 "PLUS" (call2 "PLUS" (variable "X") (variable "Y")) (variable "Z")) (call2 "PLUS" (variable "X") (call2 "PLUS" (variable "Y") (variable "Z")))))
    ∷ Ruled (Replace 5 1 (2 ∷ 1 ∷ []) (call2 "PLUS" (variable "Y") (variable "X")) Forwards)
    ∷ Ruled (Cut 1 6 (call2 "EQUAL" (call2 "PLUS" (variable "X") (variable "Y")) (call2 "PLUS" (variable "Y") (variable "X"))))
    ∷ Ruled (Instance 2 ((codes "X", (variable "Y")) ∷ (codes "Y", (variable "X")) ∷ []))
    ∷ Ruled (Replace 7 1 (2 ∷ []) (call2 "PLUS" (variable "Y") (call2 "PLUS" (variable "X") (variable "Z"))) Forwards)
    ∷ Ruled (Cut 8 9 (call2 "EQUAL" (call2 "PLUS" (call2 "PLUS" (variable "Y") (variable "X")) (variable "Z")) (call2 "PLUS" (variable "Y") (call2 "PLUS" (variable "X") (variable "Z"))))) ∷ []

pub sum_exchanges : Derivable [] (clause sum_exchanges_clause)
unfolding symbols_of number_of
sum_exchanges = everywhere (sum_commutes_clause ∷ sum_associates_clause ∷ []) sum_exchanges_log sum_exchanges_clause refl (sum_commutes, (sum_associates, tt)) refl

pub sum_exchanges_at : (h : History) (x y z : Term) → IsTerm (symbols_of h) x → IsTerm (symbols_of h) y → IsTerm (symbols_of h) z → Derivable h (clause ((call2 "EQUAL" (call2 "PLUS" x (call2 "PLUS" y z)) (call2 "PLUS" y (call2 "PLUS" x z))) ∷ []))
sum_exchanges_at h x y z ox oy oz =
    by_law h [] (call2 "EQUAL" (call2 "PLUS" (variable "X") (call2 "PLUS" (variable "Y") (variable "Z"))) (call2 "PLUS" (variable "Y") (call2 "PLUS" (variable "X") (variable "Z")))) ((codes "X", x) ∷ (codes "Y", y) ∷ (codes "Z", z) ∷ []) (grown sum_exchanges_clause sum_exchanges h) tt ((equal_symbol h, ((plus_symbol h, ox), ((plus_symbol h, oy), oz))), ((plus_symbol h, oy), ((plus_symbol h, ox), oz)))

-- (EQUAL (TIMES X (PLUS Y Z)) (PLUS (TIMES X Y) (TIMES X Z)))
abbrev product_distributes_log : List LogLine
product_distributes_log =
    Ruled (Reflexive (call0 "ZERO"))
    ∷ Ruled (Taut ((call1 "NOT" (call1 "ZEROP" (variable "X"))) ∷ (call1 "NOT" (call1 "NOT" (call1 "ZEROP" (variable "X")))) ∷ []))
    ∷ Ruled (Instance 2 ((codes "X", (call0 "ZERO")) ∷ []))
    ∷ Ruled (Cut 1 12 (call1 "ZEROP" (call0 "ZERO")))
    ∷ Ruled (Instance 5 ((codes "X", (call0 "ZERO")) ∷ []))
    ∷ Ruled (Cut 1 14 (call1 "ZEROP" (call0 "ZERO")))
    ∷ Ruled (Instance 15 ((codes "Y", (call0 "ZERO")) ∷ []))
    ∷ Ruled (Replace 16 1 (2 ∷ []) (call0 "ZERO") Forwards)
    ∷ Ruled (Cut 13 17 (call2 "EQUAL" (call1 "FIX" (call0 "ZERO")) (call0 "ZERO")))
    ∷ Ruled (Instance 9 ((codes "X", (call2 "TIMES" (call1 "SUB1" (variable "X")) (variable "Y"))) ∷ (codes "Y", (variable "Z")) ∷ (codes "Z", (call2 "TIMES" (call1 "SUB1" (variable "X")) (variable "Z"))) ∷ []))
    ∷ Ruled (Instance 7 ((codes "Y", (call2 "PLUS" (variable "Y") (variable "Z"))) ∷ []))
    ∷ Ruled (Instance 7 ((codes "Y", (variable "Z")) ∷ []))
    ∷ Ruled (Replace 10 1 (2 ∷ []) (call2 "PLUS" (call0 "ZERO") (call0 "ZERO")) Backwards)
    ∷ Ruled (Cut 18 22 (call2 "EQUAL" (call2 "PLUS" (call0 "ZERO") (call0 "ZERO")) (call0 "ZERO")))
    ∷ Ruled (Replace 23 1 (2 ∷ 2 ∷ []) (call2 "TIMES" (variable "X") (variable "Z")) Backwards)
    ∷ Ruled (Cut 21 24 (call2 "EQUAL" (call2 "TIMES" (variable "X") (variable "Z")) (call0 "ZERO")))
    ∷ Ruled (Replace 25 2 (2 ∷ 1 ∷ []) (call2 "TIMES" (variable "X") (variable "Y")) Backwards)
    ∷ Ruled (Cut 7 26 (call2 "EQUAL" (call2 "TIMES" (variable "X") (variable "Y")) (call0 "ZERO")))
    ∷ Ruled (Replace 27 2 (1 ∷ []) (call2 "TIMES" (variable "X") (call2 "PLUS" (variable "Y") (variable "Z"))) Backwards)
    ∷ Ruled (Cut 20 28 (call2 "EQUAL" (call2 "TIMES" (variable "X") (call2 "PLUS" (variable "Y") (variable "Z"))) (call0 "ZERO")))
    ∷ Ruled (Instance 8 ((codes "Y", (call2 "PLUS" (variable "Y") (variable "Z"))) ∷ []))
    ∷ Ruled (Instance 6 ((codes "X", (variable "Y")) ∷ (codes "Y", (variable "Z")) ∷ (codes "Z", (call2 "PLUS" (call2 "TIMES" (call1 "SUB1" (variable "X")) (variable "Y")) (call2 "TIMES" (call1 "SUB1" (variable "X")) (variable "Z")))) ∷ []))
    ∷ Ruled (Instance 8 ((codes "Y", (variable "Z")) ∷ []))
    ∷ Ruled (Instance 6 ((codes "X", (variable "Y")) ∷ (codes "Y", (call2 "TIMES" (call1 "SUB1" (variable "X")) (variable "Y"))) ∷ (codes "Z", (call2 "PLUS" (variable "Z") (call2 "TIMES" (call1 "SUB1" (variable "X")) (variable "Z")))) ∷ []))
    ∷ Ruled (Reflexive (call2 "PLUS" (variable "Y") (call2 "PLUS" (variable "Z") (call2 "PLUS" (call2 "TIMES" (call1 "SUB1" (variable "X")) (variable "Y")) (call2 "TIMES" (call1 "SUB1" (variable "X")) (variable "Z"))))))
    ∷ Ruled (Replace 34 1 (2 ∷ 2 ∷ []) (call2 "PLUS" (call2 "TIMES" (call1 "SUB1" (variable "X")) (variable "Y")) (call2 "PLUS" (variable "Z") (call2 "TIMES" (call1 "SUB1" (variable "X")) (variable "Z")))) Backwards)
    ∷ Ruled (Cut 19 35 (call2 "EQUAL" (call2 "PLUS" (call2 "TIMES" (call1 "SUB1" (variable "X")) (variable "Y")) (call2 "PLUS" (variable "Z") (call2 "TIMES" (call1 "SUB1" (variable "X")) (variable "Z")))) (call2 "PLUS" (variable "Z") (call2 "PLUS" (call2 "TIMES" (call1 "SUB1" (variable "X")) (variable "Y")) (call2 "TIMES" (call1 "SUB1" (variable "X")) (variable "Z"))))))
    ∷ Ruled (Replace 36 1 (2 ∷ []) (call2 "PLUS" (call2 "PLUS" (variable "Y") (call2 "TIMES" (call1 "SUB1" (variable "X")) (variable "Y"))) (call2 "PLUS" (variable "Z") (call2 "TIMES" (call1 "SUB1" (variable "X")) (variable "Z")))) Backwards)
    ∷ Ruled (Cut 33 37 (call2 "EQUAL" (call2 "PLUS" (call2 "PLUS" (variable "Y") (call2 "TIMES" (call1 "SUB1" (variable "X")) (variable "Y"))) (call2 "PLUS" (variable "Z") (call2 "TIMES" (call1 "SUB1" (variable "X")) (variable "Z")))) (call2 "PLUS" (variable "Y") (call2 "PLUS" (call2 "TIMES" (call1 "SUB1" (variable "X")) (variable "Y")) (call2 "PLUS" (variable "Z") (call2 "TIMES" (call1 "SUB1" (variable "X")) (variable "Z")))))))
    ∷ Ruled (Replace 38 1 (2 ∷ 2 ∷ []) (call2 "TIMES" (variable "X") (variable "Z")) Backwards)
    ∷ Ruled (Cut 32 39 (call2 "EQUAL" (call2 "TIMES" (variable "X") (variable "Z")) (call2 "PLUS" (variable "Z") (call2 "TIMES" (call1 "SUB1" (variable "X")) (variable "Z")))))
    ∷ Ruled (Replace 40 2 (2 ∷ 1 ∷ []) (call2 "TIMES" (variable "X") (variable "Y")) Backwards)
    ∷ Ruled (Cut 8 41 (call2 "EQUAL" (call2 "TIMES" (variable "X") (variable "Y")) (call2 "PLUS" (variable "Y") (call2 "TIMES" (call1 "SUB1" (variable "X")) (variable "Y")))))
    ∷ Ruled (Replace 42 2 (1 ∷ []) (call2 "PLUS" (call2 "PLUS" (variable "Y") (variable "Z")) (call2 "PLUS" (call2 "TIMES" (call1 "SUB1" (variable "X")) (variable "Y")) (call2 "TIMES" (call1 "SUB1" (variable "X")) (variable "Z")))) Backwards)
    ∷ Ruled (Cut 31 43 (call2 "EQUAL" (call2 "PLUS" (call2 "PLUS" (variable "Y") (variable "Z")) (call2 "PLUS" (call2 "TIMES" (call1 "SUB1" (variable "X")) (variable "Y")) (call2 "TIMES" (call1 "SUB1" (variable "X")) (variable "Z")))) (call2 "PLUS" (variable "Y") (call2 "PLUS" (variable "Z") (call2 "PLUS" (call2 "TIMES" (call1 "SUB1" (variable "X")) (variable "Y")) (call2 "TIMES" (call1 "SUB1" (variable "X")) (variable "Z")))))))
    ∷ Ruled (Replace 44 2 (1 ∷ 2 ∷ []) (call2 "TIMES" (call1 "SUB1" (variable "X")) (call2 "PLUS" (variable "Y") (variable "Z"))) Backwards)
    ∷ Ruled (Replace 45 2 (1 ∷ []) (call2 "TIMES" (variable "X") (call2 "PLUS" (variable "Y") (variable "Z"))) Backwards)
    ∷ Ruled (Cut 30 46 (call2 "EQUAL" (call2 "TIMES" (variable "X") (call2 "PLUS" (variable "Y") (variable "Z"))) (call2 "PLUS" (call2 "PLUS" (variable "Y") (variable "Z")) (call2 "TIMES" (call1 "SUB1" (variable "X")) (call2 "PLUS" (variable "Y") (variable "Z"))))))
    ∷ Ruled (Cut 47 11 (call1 "ZEROP" (variable "X")))
    ∷ Ruled (Induct (call2 "EQUAL" (call2 "TIMES" (variable "X") (call2 "PLUS" (variable "Y") (variable "Z"))) (call2 "PLUS" (call2 "TIMES" (variable "X") (variable "Y")) (call2 "TIMES" (variable "X") (variable "Z")))) (call1 "COUNT" (variable "X")) 3 29 (record { test = (call1 "NOT" (call1 "ZEROP" (variable "X"))); step = 48; hypotheses = (record { line = 4; pairs = ((codes "X", (call1 "SUB1" (variable "X"))) ∷ []) } ∷ []) } ∷ [])) ∷ []

pub product_distributes : Derivable [] (clause product_distributes_clause)
unfolding symbols_of number_of
product_distributes = everywhere (zero_is_zero_clause ∷ fix_of_zero_clause ∷ size_is_ordinal_clause ∷ size_falls_clause ∷ sum_at_zero_clause ∷ sum_associates_clause ∷ product_at_zero_clause ∷ product_at_positive_clause ∷ sum_exchanges_clause ∷ []) product_distributes_log product_distributes_clause refl (zero_is_zero, (fix_of_zero, (size_is_ordinal, (size_falls, (sum_at_zero, (sum_associates, (product_at_zero, (product_at_positive, (sum_exchanges, tt))))))))) refl

pub product_distributes_at : (h : History) (x y z : Term) → IsTerm (symbols_of h) x → IsTerm (symbols_of h) y → IsTerm (symbols_of h) z → Derivable h (clause ((call2 "EQUAL" (call2 "TIMES" x (call2 "PLUS" y z)) (call2 "PLUS" (call2 "TIMES" x y) (call2 "TIMES" x z))) ∷ []))
product_distributes_at h x y z ox oy oz =
    by_law h [] (call2 "EQUAL" (call2 "TIMES" (variable "X") (call2 "PLUS" (variable "Y") (variable "Z"))) (call2 "PLUS" (call2 "TIMES" (variable "X") (variable "Y")) (call2 "TIMES" (variable "X") (variable "Z")))) ((codes "X", x) ∷ (codes "Y", y) ∷ (codes "Z", z) ∷ []) (grown product_distributes_clause product_distributes h) tt ((equal_symbol h, ((times_symbol h, ox), ((plus_symbol h, oy), oz))), ((plus_symbol h, ((times_symbol h, ox), oy)), ((times_symbol h, ox), oz)))

-- (EQUAL (TIMES 0 Y) 0)
abbrev product_of_zero_log : List LogLine
product_of_zero_log =
    Ruled (AxiomRow (codes "IF") 2 0)
    ∷ Ruled (Reflexive (call0 "ZERO"))
    ∷ Ruled (AxiomRow (codes "TIMES") 1 0)
    ∷ Ruled (Instance 4 ((codes "X", (call0 "ZERO")) ∷ []))
    ∷ Ruled (Instance 2 ((codes "X", (call1 "ZEROP" (call0 "ZERO"))) ∷ (codes "Y", (call0 "ZERO")) ∷ (codes "Z", (call2 "PLUS" (variable "Y") (call2 "TIMES" (call1 "SUB1" (call0 "ZERO")) (variable "Y")))) ∷ []))
    ∷ Ruled (Replace 3 1 (1 ∷ []) (call3 "IF" (call1 "ZEROP" (call0 "ZERO")) (call0 "ZERO") (call2 "PLUS" (variable "Y") (call2 "TIMES" (call1 "SUB1" (call0 "ZERO")) (variable "Y")))) Backwards)
    ∷ Ruled (Cut 6 7 (call2 "EQUAL" (call3 "IF" (call1 "ZEROP" (call0 "ZERO")) (call0 "ZERO") (call2 "PLUS" (variable "Y") (call2 "TIMES" (call1 "SUB1" (call0 "ZERO")) (variable "Y")))) (call0 "ZERO")))
    ∷ Ruled (Cut 1 8 (call1 "ZEROP" (call0 "ZERO")))
    ∷ Ruled (Replace 9 1 (1 ∷ []) (call2 "TIMES" (call0 "ZERO") (variable "Y")) Backwards)
    ∷ Ruled (Cut 5 10 (call2 "EQUAL" (call2 "TIMES" (call0 "ZERO") (variable "Y")) (call3 "IF" (call1 "ZEROP" (call0 "ZERO")) (call0 "ZERO") (call2 "PLUS" (variable "Y") (call2 "TIMES" (call1 "SUB1" (call0 "ZERO")) (variable "Y")))))) ∷ []

pub product_of_zero : Derivable [] (clause product_of_zero_clause)
unfolding symbols_of number_of
product_of_zero = everywhere (zero_is_zero_clause ∷ []) product_of_zero_log product_of_zero_clause refl (zero_is_zero, tt) refl

pub product_of_zero_at : (h : History) (y : Term) → IsTerm (symbols_of h) y → Derivable h (clause ((call2 "EQUAL" (call2 "TIMES" (call0 "ZERO") y) (call0 "ZERO")) ∷ []))
product_of_zero_at h y oy =
    by_law h [] (call2 "EQUAL" (call2 "TIMES" (call0 "ZERO") (variable "Y")) (call0 "ZERO")) ((codes "Y", y) ∷ []) (grown product_of_zero_clause product_of_zero h) tt ((equal_symbol h, ((times_symbol h, (zero_symbol h)), oy)), (zero_symbol h))

-- (NOT (NUMBERP A)), (NOT (EQUAL (PLUS B C) D)), (NOT (EQUAL (TIMES A B) C)), (EQUAL (TIMES (ADD1 A) B) D)
abbrev product_step_log : List LogLine
product_step_log =
    Ruled (AxiomRow (codes "ADD1") 6 1)
    ∷ Ruled (AxiomRow (codes "IF") 1 0)
    ∷ Ruled (AxiomRow (codes "FALSE") 1 0)
    ∷ Ruled (AxiomRow (codes "TIMES") 1 0)
    ∷ Ruled (Instance 5 ((codes "X", (call1 "ADD1" (variable "A"))) ∷ (codes "Y", (variable "B")) ∷ []))
    ∷ Ruled (Instance 1 ((codes "X", (variable "A")) ∷ []))
    ∷ Ruled (Instance 2 ((codes "X1", (variable "A")) ∷ []))
    ∷ Ruled (Instance 3 ((codes "X", (call0 "FALSE")) ∷ (codes "Y", (call0 "ZERO")) ∷ (codes "Z", (variable "D")) ∷ []))
    ∷ Ruled (Cut 9 4 (call0 "FALSE"))
    ∷ Ruled (Reflexive (variable "D"))
    ∷ Ruled (Replace 11 1 (1 ∷ []) (call3 "IF" (call0 "FALSE") (call0 "ZERO") (variable "D")) Backwards)
    ∷ Ruled (Cut 10 12 (call2 "EQUAL" (call3 "IF" (call0 "FALSE") (call0 "ZERO") (variable "D")) (variable "D")))
    ∷ Ruled (Replace 13 1 (1 ∷ 3 ∷ []) (call2 "PLUS" (variable "B") (variable "C")) Backwards)
    ∷ Ruled (Replace 14 1 (1 ∷ 3 ∷ 2 ∷ []) (call2 "TIMES" (variable "A") (variable "B")) Backwards)
    ∷ Ruled (Replace 15 1 (1 ∷ 3 ∷ 2 ∷ 1 ∷ []) (call1 "SUB1" (call1 "ADD1" (variable "A"))) Backwards)
    ∷ Ruled (Cut 8 16 (call2 "EQUAL" (call1 "SUB1" (call1 "ADD1" (variable "A"))) (variable "A")))
    ∷ Ruled (Replace 17 2 (1 ∷ 1 ∷ []) (call1 "ZEROP" (call1 "ADD1" (variable "A"))) Backwards)
    ∷ Ruled (Cut 7 18 (call2 "EQUAL" (call1 "ZEROP" (call1 "ADD1" (variable "A"))) (call0 "FALSE")))
    ∷ Ruled (Replace 19 2 (1 ∷ []) (call2 "TIMES" (call1 "ADD1" (variable "A")) (variable "B")) Backwards)
    ∷ Ruled (Cut 6 20 (call2 "EQUAL" (call2 "TIMES" (call1 "ADD1" (variable "A")) (variable "B")) (call3 "IF" (call1 "ZEROP" (call1 "ADD1" (variable "A"))) (call0 "ZERO") (call2 "PLUS" (variable "B") (call2 "TIMES" (call1 "SUB1" (call1 "ADD1" (variable "A"))) (variable "B"))))))
    ∷ Ruled (Taut ((call1 "NOT" (call2 "EQUAL" (call2 "TIMES" (call1 "ADD1" (variable "A")) (variable "B")) (variable "D"))) ∷ (call2 "EQUAL" (call2 "TIMES" (call1 "ADD1" (variable "A")) (variable "B")) (variable "D")) ∷ []))
    ∷ Ruled (Cut 21 22 (call2 "EQUAL" (call2 "TIMES" (call1 "ADD1" (variable "A")) (variable "B")) (variable "D"))) ∷ []

pub product_step : Derivable [] (clause product_step_clause)
unfolding symbols_of number_of
product_step = everywhere (add1_is_not_zero_clause ∷ []) product_step_log product_step_clause refl (add1_is_not_zero, tt) refl

pub product_step_at : (h : History) (a b c d : Term) → IsTerm (symbols_of h) a → IsTerm (symbols_of h) b → IsTerm (symbols_of h) c → IsTerm (symbols_of h) d → Derivable h (clause ((call1 "NUMBERP" a) ∷ [])) → Derivable h (clause ((call2 "EQUAL" (call2 "TIMES" a b) c) ∷ [])) → Derivable h (clause ((call2 "EQUAL" (call2 "PLUS" b c) d) ∷ [])) → Derivable h (clause ((call2 "EQUAL" (call2 "TIMES" (call1 "ADD1" a) b) d) ∷ []))
product_step_at h a b c d oa ob oc od d1 d2 d3 =
    by_law h ((call1 "NUMBERP" (variable "A")) ∷ (call2 "EQUAL" (call2 "PLUS" (variable "B") (variable "C")) (variable "D")) ∷ (call2 "EQUAL" (call2 "TIMES" (variable "A") (variable "B")) (variable "C")) ∷ []) (call2 "EQUAL" (call2 "TIMES" (call1 "ADD1" (variable "A")) (variable "B")) (variable "D")) ((codes "A", a) ∷ (codes "B", b) ∷ (codes "C", c) ∷ (codes "D", d) ∷ []) (grown product_step_clause product_step h) (d1, (d3, (d2, tt))) ((equal_symbol h, ((times_symbol h, (add1_symbol h, oa)), ob)), od)

pub laws_of_times_hold : AreDerivable laws_of_times
laws_of_times_hold h = (grown product_at_zero_clause product_at_zero h, (grown product_at_positive_clause product_at_positive h, (grown sum_exchanges_clause sum_exchanges h, (grown product_distributes_clause product_distributes h, (grown product_of_zero_clause product_of_zero h, (grown product_step_clause product_step h, tt))))))
