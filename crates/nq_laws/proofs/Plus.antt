-- Laws of PLUS step by step in the ground history, each by a log over earlier ones, and at terms of any history.
use Rattle.std.proofs.Common.{List, [], ◌∷◌, refl}
use Rattle.std.specs.Prelude.{codes}
use Rattle.nq_logic.specs.Terms.{Term, IsTerm}
use Rattle.nq_logic.specs.Words.{variable, call0, call1, call2, call3}
use Rattle.nq_logic.specs.Histories.{History}
use Rattle.nq_logic.specs.Ground.{symbols_of}
use Rattle.nq_logic.specs.Numerals.{number_of}
use Rattle.nq_logic.specs.Formulas.{clause}
use Rattle.nq_logic.specs.Derivations.{Derivable}
use Rattle.nq_proof.specs.Rules.{Taut, AxiomRow, Cut, Instance, Reflexive, Replace, Induct, Forwards, Backwards}
use Rattle.nq_proof.specs.Logs.{LogLine, Ruled}
use Rattle.nq_proof.proofs.SoundLogs.{everywhere, grown}
use Rattle.nq_proof.proofs.ByLaw.{by_law}
use Rattle.nq_laws.specs.Laws.{AreDerivable}
use Rattle.nq_logic.proofs.Symbols.{add1_symbol, equal_symbol, fix_symbol, numberp_symbol, plus_symbol, zero_symbol}
use Rattle.nq_laws.specs.Plus.{sum_is_number_clause, sum_at_zero_clause, sum_at_positive_clause, sum_with_zero_clause, add1_of_fix_clause, fix_of_add1_clause, sum_with_add1_clause, fix_is_number_clause, sum_with_fix_clause, laws_of_plus}
use Rattle.nq_laws.specs.Zero.{add1_is_number_clause, zero_is_number_clause, zero_is_zero_clause, fix_of_zero_clause, fix_of_positive_clause, add1_of_sub1_clause, fix_of_sub1_clause, fix_of_number_clause, fix_of_other_clause}
use Rattle.nq_laws.proofs.Zero.{add1_is_number, zero_is_number, zero_is_zero, fix_of_zero, fix_of_positive, add1_of_sub1, fix_of_sub1, fix_of_number, fix_of_other}
use Rattle.nq_laws.specs.Ordinals.{size_is_ordinal_clause, size_falls_clause}
use Rattle.nq_laws.proofs.Ordinals.{size_is_ordinal, size_falls}

-- (NUMBERP (PLUS X Y))
abbrev sum_is_number_log : List LogLine
sum_is_number_log =
    Ruled (AxiomRow (codes "PLUS") 1 0)
    ∷ Ruled (AxiomRow (codes "FIX") 1 0)
    ∷ Ruled (Instance 4 ((codes "X", (variable "Y")) ∷ []))
    ∷ Ruled (AxiomRow (codes "IF") 2 0)
    ∷ Ruled (Instance 6 ((codes "X", (call1 "NUMBERP" (variable "Y"))) ∷ (codes "Z", (call0 "ZERO")) ∷ []))
    ∷ Ruled (Instance 6 ((codes "X", (call1 "ZEROP" (variable "X"))) ∷ (codes "Z", (call1 "ADD1" (call2 "PLUS" (call1 "SUB1" (variable "X")) (variable "Y")))) ∷ []))
    ∷ Ruled (Taut ((call1 "NUMBERP" (variable "Y")) ∷ (call1 "NOT" (call1 "NUMBERP" (variable "Y"))) ∷ []))
    ∷ Ruled (Replace 9 1 (1 ∷ []) (call3 "IF" (call1 "ZEROP" (variable "X")) (variable "Y") (call1 "ADD1" (call2 "PLUS" (call1 "SUB1" (variable "X")) (variable "Y")))) Backwards)
    ∷ Ruled (Cut 8 10 (call2 "EQUAL" (call3 "IF" (call1 "ZEROP" (variable "X")) (variable "Y") (call1 "ADD1" (call2 "PLUS" (call1 "SUB1" (variable "X")) (variable "Y")))) (variable "Y")))
    ∷ Ruled (AxiomRow (codes "IF") 1 0)
    ∷ Ruled (Instance 12 ((codes "X", (call1 "ZEROP" (variable "X"))) ∷ (codes "Z", (call1 "ADD1" (call2 "PLUS" (call1 "SUB1" (variable "X")) (variable "Y")))) ∷ []))
    ∷ Ruled (Instance 1 ((codes "X1", (call2 "PLUS" (call1 "SUB1" (variable "X")) (variable "Y"))) ∷ []))
    ∷ Ruled (Replace 14 1 (1 ∷ []) (call3 "IF" (call1 "ZEROP" (variable "X")) (variable "Y") (call1 "ADD1" (call2 "PLUS" (call1 "SUB1" (variable "X")) (variable "Y")))) Backwards)
    ∷ Ruled (Cut 13 15 (call2 "EQUAL" (call3 "IF" (call1 "ZEROP" (variable "X")) (variable "Y") (call1 "ADD1" (call2 "PLUS" (call1 "SUB1" (variable "X")) (variable "Y")))) (call1 "ADD1" (call2 "PLUS" (call1 "SUB1" (variable "X")) (variable "Y")))))
    ∷ Ruled (Cut 16 11 (call1 "ZEROP" (variable "X")))
    ∷ Ruled (Replace 17 1 (1 ∷ 2 ∷ []) (call3 "IF" (call1 "NUMBERP" (variable "Y")) (variable "Y") (call0 "ZERO")) Backwards)
    ∷ Ruled (Cut 7 18 (call2 "EQUAL" (call3 "IF" (call1 "NUMBERP" (variable "Y")) (variable "Y") (call0 "ZERO")) (variable "Y")))
    ∷ Ruled (Instance 12 ((codes "X", (call1 "NUMBERP" (variable "Y"))) ∷ (codes "Z", (call0 "ZERO")) ∷ []))
    ∷ Ruled (Instance 6 ((codes "X", (call1 "ZEROP" (variable "X"))) ∷ (codes "Y", (call0 "ZERO")) ∷ (codes "Z", (call1 "ADD1" (call2 "PLUS" (call1 "SUB1" (variable "X")) (variable "Y")))) ∷ []))
    ∷ Ruled (Replace 2 1 (1 ∷ []) (call3 "IF" (call1 "ZEROP" (variable "X")) (call0 "ZERO") (call1 "ADD1" (call2 "PLUS" (call1 "SUB1" (variable "X")) (variable "Y")))) Backwards)
    ∷ Ruled (Cut 21 22 (call2 "EQUAL" (call3 "IF" (call1 "ZEROP" (variable "X")) (call0 "ZERO") (call1 "ADD1" (call2 "PLUS" (call1 "SUB1" (variable "X")) (variable "Y")))) (call0 "ZERO")))
    ∷ Ruled (Instance 12 ((codes "X", (call1 "ZEROP" (variable "X"))) ∷ (codes "Y", (call0 "ZERO")) ∷ (codes "Z", (call1 "ADD1" (call2 "PLUS" (call1 "SUB1" (variable "X")) (variable "Y")))) ∷ []))
    ∷ Ruled (Replace 14 1 (1 ∷ []) (call3 "IF" (call1 "ZEROP" (variable "X")) (call0 "ZERO") (call1 "ADD1" (call2 "PLUS" (call1 "SUB1" (variable "X")) (variable "Y")))) Backwards)
    ∷ Ruled (Cut 24 25 (call2 "EQUAL" (call3 "IF" (call1 "ZEROP" (variable "X")) (call0 "ZERO") (call1 "ADD1" (call2 "PLUS" (call1 "SUB1" (variable "X")) (variable "Y")))) (call1 "ADD1" (call2 "PLUS" (call1 "SUB1" (variable "X")) (variable "Y")))))
    ∷ Ruled (Cut 26 23 (call1 "ZEROP" (variable "X")))
    ∷ Ruled (Replace 27 1 (1 ∷ 2 ∷ []) (call3 "IF" (call1 "NUMBERP" (variable "Y")) (variable "Y") (call0 "ZERO")) Backwards)
    ∷ Ruled (Cut 20 28 (call2 "EQUAL" (call3 "IF" (call1 "NUMBERP" (variable "Y")) (variable "Y") (call0 "ZERO")) (call0 "ZERO")))
    ∷ Ruled (Cut 29 19 (call1 "NUMBERP" (variable "Y")))
    ∷ Ruled (Replace 30 1 (1 ∷ 2 ∷ []) (call1 "FIX" (variable "Y")) Backwards)
    ∷ Ruled (Cut 5 31 (call2 "EQUAL" (call1 "FIX" (variable "Y")) (call3 "IF" (call1 "NUMBERP" (variable "Y")) (variable "Y") (call0 "ZERO"))))
    ∷ Ruled (Replace 32 1 (1 ∷ []) (call2 "PLUS" (variable "X") (variable "Y")) Backwards)
    ∷ Ruled (Cut 3 33 (call2 "EQUAL" (call2 "PLUS" (variable "X") (variable "Y")) (call3 "IF" (call1 "ZEROP" (variable "X")) (call1 "FIX" (variable "Y")) (call1 "ADD1" (call2 "PLUS" (call1 "SUB1" (variable "X")) (variable "Y")))))) ∷ []

pub sum_is_number : Derivable [] (clause sum_is_number_clause)
unfolding symbols_of number_of
sum_is_number = everywhere (add1_is_number_clause ∷ zero_is_number_clause ∷ []) sum_is_number_log sum_is_number_clause refl (add1_is_number, (zero_is_number, tt)) refl

pub sum_is_number_at : (h : History) (x y : Term) → IsTerm (symbols_of h) x → IsTerm (symbols_of h) y → Derivable h (clause ((call1 "NUMBERP" (call2 "PLUS" x y)) ∷ []))
sum_is_number_at h x y ox oy =
    by_law h [] (call1 "NUMBERP" (call2 "PLUS" (variable "X") (variable "Y"))) ((codes "X", x) ∷ (codes "Y", y) ∷ []) (grown sum_is_number_clause sum_is_number h) tt (numberp_symbol h, ((plus_symbol h, ox), oy))

-- (NOT (ZEROP X)), (EQUAL (PLUS X Y) (FIX Y))
abbrev sum_at_zero_log : List LogLine
sum_at_zero_log =
    Ruled (AxiomRow (codes "PLUS") 1 0)
    ∷ Ruled (AxiomRow (codes "IF") 2 0)
    ∷ Ruled (Instance 2 ((codes "X", (call1 "ZEROP" (variable "X"))) ∷ (codes "Y", (call1 "FIX" (variable "Y"))) ∷ (codes "Z", (call1 "ADD1" (call2 "PLUS" (call1 "SUB1" (variable "X")) (variable "Y")))) ∷ []))
    ∷ Ruled (Reflexive (call1 "FIX" (variable "Y")))
    ∷ Ruled (Replace 4 1 (1 ∷ []) (call3 "IF" (call1 "ZEROP" (variable "X")) (call1 "FIX" (variable "Y")) (call1 "ADD1" (call2 "PLUS" (call1 "SUB1" (variable "X")) (variable "Y")))) Backwards)
    ∷ Ruled (Cut 3 5 (call2 "EQUAL" (call3 "IF" (call1 "ZEROP" (variable "X")) (call1 "FIX" (variable "Y")) (call1 "ADD1" (call2 "PLUS" (call1 "SUB1" (variable "X")) (variable "Y")))) (call1 "FIX" (variable "Y"))))
    ∷ Ruled (Replace 6 2 (1 ∷ []) (call2 "PLUS" (variable "X") (variable "Y")) Backwards)
    ∷ Ruled (Cut 1 7 (call2 "EQUAL" (call2 "PLUS" (variable "X") (variable "Y")) (call3 "IF" (call1 "ZEROP" (variable "X")) (call1 "FIX" (variable "Y")) (call1 "ADD1" (call2 "PLUS" (call1 "SUB1" (variable "X")) (variable "Y")))))) ∷ []

pub sum_at_zero : Derivable [] (clause sum_at_zero_clause)
unfolding symbols_of number_of
sum_at_zero = everywhere [] sum_at_zero_log sum_at_zero_clause refl tt refl

pub sum_at_zero_at : (h : History) (x y : Term) → IsTerm (symbols_of h) x → IsTerm (symbols_of h) y → Derivable h (clause ((call1 "ZEROP" x) ∷ [])) → Derivable h (clause ((call2 "EQUAL" (call2 "PLUS" x y) (call1 "FIX" y)) ∷ []))
sum_at_zero_at h x y ox oy d1 =
    by_law h ((call1 "ZEROP" (variable "X")) ∷ []) (call2 "EQUAL" (call2 "PLUS" (variable "X") (variable "Y")) (call1 "FIX" (variable "Y"))) ((codes "X", x) ∷ (codes "Y", y) ∷ []) (grown sum_at_zero_clause sum_at_zero h) (d1, tt) ((equal_symbol h, ((plus_symbol h, ox), oy)), (fix_symbol h, oy))

-- (ZEROP X), (EQUAL (PLUS X Y) (ADD1 (PLUS (SUB1 X) Y)))
abbrev sum_at_positive_log : List LogLine
sum_at_positive_log =
    Ruled (AxiomRow (codes "PLUS") 1 0)
    ∷ Ruled (AxiomRow (codes "IF") 1 0)
    ∷ Ruled (Instance 2 ((codes "X", (call1 "ZEROP" (variable "X"))) ∷ (codes "Y", (call1 "FIX" (variable "Y"))) ∷ (codes "Z", (call1 "ADD1" (call2 "PLUS" (call1 "SUB1" (variable "X")) (variable "Y")))) ∷ []))
    ∷ Ruled (Reflexive (call1 "ADD1" (call2 "PLUS" (call1 "SUB1" (variable "X")) (variable "Y"))))
    ∷ Ruled (Replace 4 1 (1 ∷ []) (call3 "IF" (call1 "ZEROP" (variable "X")) (call1 "FIX" (variable "Y")) (call1 "ADD1" (call2 "PLUS" (call1 "SUB1" (variable "X")) (variable "Y")))) Backwards)
    ∷ Ruled (Cut 3 5 (call2 "EQUAL" (call3 "IF" (call1 "ZEROP" (variable "X")) (call1 "FIX" (variable "Y")) (call1 "ADD1" (call2 "PLUS" (call1 "SUB1" (variable "X")) (variable "Y")))) (call1 "ADD1" (call2 "PLUS" (call1 "SUB1" (variable "X")) (variable "Y")))))
    ∷ Ruled (Replace 6 2 (1 ∷ []) (call2 "PLUS" (variable "X") (variable "Y")) Backwards)
    ∷ Ruled (Cut 1 7 (call2 "EQUAL" (call2 "PLUS" (variable "X") (variable "Y")) (call3 "IF" (call1 "ZEROP" (variable "X")) (call1 "FIX" (variable "Y")) (call1 "ADD1" (call2 "PLUS" (call1 "SUB1" (variable "X")) (variable "Y")))))) ∷ []

pub sum_at_positive : Derivable [] (clause sum_at_positive_clause)
unfolding symbols_of number_of
sum_at_positive = everywhere [] sum_at_positive_log sum_at_positive_clause refl tt refl

-- (EQUAL (PLUS X 0) (FIX X))
abbrev sum_with_zero_log : List LogLine
sum_with_zero_log =
    Ruled (Reflexive (call0 "ZERO"))
    ∷ Ruled (Reflexive (variable "X"))
    ∷ Ruled (Taut ((call1 "NOT" (call1 "ZEROP" (variable "X"))) ∷ (call1 "NOT" (call1 "NOT" (call1 "ZEROP" (variable "X")))) ∷ []))
    ∷ Ruled (Instance 2 ((codes "X", (call0 "ZERO")) ∷ []))
    ∷ Ruled (Cut 1 13 (call1 "ZEROP" (call0 "ZERO")))
    ∷ Ruled (Instance 7 ((codes "Y", (call0 "ZERO")) ∷ []))
    ∷ Ruled (Replace 10 1 (2 ∷ []) (call1 "FIX" (variable "X")) Backwards)
    ∷ Ruled (Cut 2 16 (call2 "EQUAL" (call1 "FIX" (variable "X")) (call0 "ZERO")))
    ∷ Ruled (Replace 17 2 (1 ∷ []) (call1 "FIX" (call0 "ZERO")) Backwards)
    ∷ Ruled (Cut 14 18 (call2 "EQUAL" (call1 "FIX" (call0 "ZERO")) (call0 "ZERO")))
    ∷ Ruled (Replace 19 2 (1 ∷ []) (call2 "PLUS" (variable "X") (call0 "ZERO")) Backwards)
    ∷ Ruled (Cut 15 20 (call2 "EQUAL" (call2 "PLUS" (variable "X") (call0 "ZERO")) (call1 "FIX" (call0 "ZERO"))))
    ∷ Ruled (Instance 8 ((codes "Y", (call0 "ZERO")) ∷ []))
    ∷ Ruled (Replace 11 1 (2 ∷ []) (call1 "FIX" (variable "X")) Backwards)
    ∷ Ruled (Cut 3 23 (call2 "EQUAL" (call1 "FIX" (variable "X")) (variable "X")))
    ∷ Ruled (Replace 24 2 (1 ∷ []) (call1 "ADD1" (call1 "SUB1" (variable "X"))) Backwards)
    ∷ Ruled (Cut 4 25 (call2 "EQUAL" (call1 "ADD1" (call1 "SUB1" (variable "X"))) (variable "X")))
    ∷ Ruled (Replace 26 2 (1 ∷ 1 ∷ []) (call2 "PLUS" (call1 "SUB1" (variable "X")) (call0 "ZERO")) Backwards)
    ∷ Ruled (Replace 27 2 (1 ∷ []) (call2 "PLUS" (variable "X") (call0 "ZERO")) Backwards)
    ∷ Ruled (Cut 22 28 (call2 "EQUAL" (call2 "PLUS" (variable "X") (call0 "ZERO")) (call1 "ADD1" (call2 "PLUS" (call1 "SUB1" (variable "X")) (call0 "ZERO")))))
    ∷ Ruled (Replace 29 3 (1 ∷ 2 ∷ []) (call1 "FIX" (call1 "SUB1" (variable "X"))) Backwards)
    ∷ Ruled (Cut 9 30 (call2 "EQUAL" (call1 "FIX" (call1 "SUB1" (variable "X"))) (call1 "SUB1" (variable "X"))))
    ∷ Ruled (Cut 31 12 (call1 "ZEROP" (variable "X")))
    ∷ Ruled (Induct (call2 "EQUAL" (call2 "PLUS" (variable "X") (call0 "ZERO")) (call1 "FIX" (variable "X"))) (call1 "COUNT" (variable "X")) 5 21 (record { test = (call1 "NOT" (call1 "ZEROP" (variable "X"))); step = 32; hypotheses = (record { line = 6; pairs = ((codes "X", (call1 "SUB1" (variable "X"))) ∷ []) } ∷ []) } ∷ [])) ∷ []

pub sum_with_zero : Derivable [] (clause sum_with_zero_clause)
unfolding symbols_of number_of
sum_with_zero = everywhere (zero_is_zero_clause ∷ fix_of_zero_clause ∷ fix_of_positive_clause ∷ add1_of_sub1_clause ∷ size_is_ordinal_clause ∷ size_falls_clause ∷ sum_at_zero_clause ∷ sum_at_positive_clause ∷ fix_of_sub1_clause ∷ []) sum_with_zero_log sum_with_zero_clause refl (zero_is_zero, (fix_of_zero, (fix_of_positive, (add1_of_sub1, (size_is_ordinal, (size_falls, (sum_at_zero, (sum_at_positive, (fix_of_sub1, tt))))))))) refl

pub sum_with_zero_at : (h : History) (x : Term) → IsTerm (symbols_of h) x → Derivable h (clause ((call2 "EQUAL" (call2 "PLUS" x (call0 "ZERO")) (call1 "FIX" x)) ∷ []))
sum_with_zero_at h x ox =
    by_law h [] (call2 "EQUAL" (call2 "PLUS" (variable "X") (call0 "ZERO")) (call1 "FIX" (variable "X"))) ((codes "X", x) ∷ []) (grown sum_with_zero_clause sum_with_zero h) tt ((equal_symbol h, ((plus_symbol h, ox), (zero_symbol h))), (fix_symbol h, ox))

-- (EQUAL (ADD1 (FIX Y)) (ADD1 Y))
abbrev add1_of_fix_log : List LogLine
add1_of_fix_log =
    Ruled (AxiomRow (codes "ADD1") 10 1)
    ∷ Ruled (Reflexive (call1 "ADD1" (call1 "FIX" (variable "Y"))))
    ∷ Ruled (Instance 2 ((codes "X", (variable "Y")) ∷ []))
    ∷ Ruled (Replace 4 1 (2 ∷ 1 ∷ []) (call0 "ZERO") Forwards)
    ∷ Ruled (Cut 5 6 (call2 "EQUAL" (call1 "FIX" (variable "Y")) (call0 "ZERO")))
    ∷ Ruled (Instance 3 ((codes "X1", (variable "Y")) ∷ []))
    ∷ Ruled (Instance 1 ((codes "X", (variable "Y")) ∷ []))
    ∷ Ruled (Reflexive (call1 "ADD1" (variable "Y")))
    ∷ Ruled (Replace 10 1 (1 ∷ 1 ∷ []) (call1 "FIX" (variable "Y")) Backwards)
    ∷ Ruled (Cut 9 11 (call2 "EQUAL" (call1 "FIX" (variable "Y")) (variable "Y")))
    ∷ Ruled (Reflexive (call1 "ADD1" (call0 "ZERO")))
    ∷ Ruled (Replace 13 1 (2 ∷ []) (call1 "ADD1" (variable "Y")) Backwards)
    ∷ Ruled (Cut 8 14 (call2 "EQUAL" (call1 "ADD1" (variable "Y")) (call1 "ADD1" (call0 "ZERO"))))
    ∷ Ruled (Replace 15 2 (1 ∷ []) (call1 "ADD1" (call1 "FIX" (variable "Y"))) Backwards)
    ∷ Ruled (Cut 7 16 (call2 "EQUAL" (call1 "ADD1" (call1 "FIX" (variable "Y"))) (call1 "ADD1" (call0 "ZERO"))))
    ∷ Ruled (Cut 17 12 (call1 "NUMBERP" (variable "Y"))) ∷ []

pub add1_of_fix : Derivable [] (clause add1_of_fix_clause)
unfolding symbols_of number_of
add1_of_fix = everywhere (fix_of_number_clause ∷ fix_of_other_clause ∷ []) add1_of_fix_log add1_of_fix_clause refl (fix_of_number, (fix_of_other, tt)) refl

pub add1_of_fix_at : (h : History) (y : Term) → IsTerm (symbols_of h) y → Derivable h (clause ((call2 "EQUAL" (call1 "ADD1" (call1 "FIX" y)) (call1 "ADD1" y)) ∷ []))
add1_of_fix_at h y oy =
    by_law h [] (call2 "EQUAL" (call1 "ADD1" (call1 "FIX" (variable "Y"))) (call1 "ADD1" (variable "Y"))) ((codes "Y", y) ∷ []) (grown add1_of_fix_clause add1_of_fix h) tt ((equal_symbol h, (add1_symbol h, (fix_symbol h, oy))), (add1_symbol h, oy))

-- (EQUAL (FIX (ADD1 X)) (ADD1 X))
abbrev fix_of_add1_log : List LogLine
fix_of_add1_log =
    Ruled (AxiomRow (codes "FIX") 1 0)
    ∷ Ruled (AxiomRow (codes "IF") 2 0)
    ∷ Ruled (Instance 1 ((codes "X1", (variable "X")) ∷ []))
    ∷ Ruled (Instance 2 ((codes "X", (call1 "ADD1" (variable "X"))) ∷ []))
    ∷ Ruled (Instance 3 ((codes "X", (call1 "NUMBERP" (call1 "ADD1" (variable "X")))) ∷ (codes "Y", (call1 "ADD1" (variable "X"))) ∷ (codes "Z", (call0 "ZERO")) ∷ []))
    ∷ Ruled (Reflexive (call1 "ADD1" (variable "X")))
    ∷ Ruled (Replace 7 1 (1 ∷ []) (call3 "IF" (call1 "NUMBERP" (call1 "ADD1" (variable "X"))) (call1 "ADD1" (variable "X")) (call0 "ZERO")) Backwards)
    ∷ Ruled (Cut 6 8 (call2 "EQUAL" (call3 "IF" (call1 "NUMBERP" (call1 "ADD1" (variable "X"))) (call1 "ADD1" (variable "X")) (call0 "ZERO")) (call1 "ADD1" (variable "X"))))
    ∷ Ruled (Cut 4 9 (call1 "NUMBERP" (call1 "ADD1" (variable "X"))))
    ∷ Ruled (Replace 10 1 (1 ∷ []) (call1 "FIX" (call1 "ADD1" (variable "X"))) Backwards)
    ∷ Ruled (Cut 5 11 (call2 "EQUAL" (call1 "FIX" (call1 "ADD1" (variable "X"))) (call3 "IF" (call1 "NUMBERP" (call1 "ADD1" (variable "X"))) (call1 "ADD1" (variable "X")) (call0 "ZERO")))) ∷ []

pub fix_of_add1 : Derivable [] (clause fix_of_add1_clause)
unfolding symbols_of number_of
fix_of_add1 = everywhere (add1_is_number_clause ∷ []) fix_of_add1_log fix_of_add1_clause refl (add1_is_number, tt) refl

pub fix_of_add1_at : (h : History) (x : Term) → IsTerm (symbols_of h) x → Derivable h (clause ((call2 "EQUAL" (call1 "FIX" (call1 "ADD1" x)) (call1 "ADD1" x)) ∷ []))
fix_of_add1_at h x ox =
    by_law h [] (call2 "EQUAL" (call1 "FIX" (call1 "ADD1" (variable "X"))) (call1 "ADD1" (variable "X"))) ((codes "X", x) ∷ []) (grown fix_of_add1_clause fix_of_add1 h) tt ((equal_symbol h, (fix_symbol h, (add1_symbol h, ox))), (add1_symbol h, ox))

-- (EQUAL (PLUS X (ADD1 Y)) (ADD1 (PLUS X Y)))
abbrev sum_with_add1_log : List LogLine
sum_with_add1_log =
    Ruled (Taut ((call1 "NOT" (call1 "ZEROP" (variable "X"))) ∷ (call1 "NOT" (call1 "NOT" (call1 "ZEROP" (variable "X")))) ∷ []))
    ∷ Ruled (Reflexive (call1 "ADD1" (variable "Y")))
    ∷ Ruled (Instance 3 ((codes "Y", (call1 "ADD1" (variable "Y"))) ∷ []))
    ∷ Ruled (Instance 6 ((codes "X", (variable "Y")) ∷ []))
    ∷ Ruled (Replace 8 1 (2 ∷ []) (call1 "ADD1" (call1 "FIX" (variable "Y"))) Backwards)
    ∷ Ruled (Cut 5 11 (call2 "EQUAL" (call1 "ADD1" (call1 "FIX" (variable "Y"))) (call1 "ADD1" (variable "Y"))))
    ∷ Ruled (Replace 12 1 (2 ∷ 1 ∷ []) (call2 "PLUS" (variable "X") (variable "Y")) Backwards)
    ∷ Ruled (Cut 3 13 (call2 "EQUAL" (call2 "PLUS" (variable "X") (variable "Y")) (call1 "FIX" (variable "Y"))))
    ∷ Ruled (Replace 14 2 (1 ∷ []) (call1 "FIX" (call1 "ADD1" (variable "Y"))) Backwards)
    ∷ Ruled (Cut 10 15 (call2 "EQUAL" (call1 "FIX" (call1 "ADD1" (variable "Y"))) (call1 "ADD1" (variable "Y"))))
    ∷ Ruled (Replace 16 2 (1 ∷ []) (call2 "PLUS" (variable "X") (call1 "ADD1" (variable "Y"))) Backwards)
    ∷ Ruled (Cut 9 17 (call2 "EQUAL" (call2 "PLUS" (variable "X") (call1 "ADD1" (variable "Y"))) (call1 "FIX" (call1 "ADD1" (variable "Y")))))
    ∷ Ruled (Instance 4 ((codes "Y", (call1 "ADD1" (variable "Y"))) ∷ []))
    ∷ Ruled (Reflexive (call1 "ADD1" (call1 "ADD1" (call2 "PLUS" (call1 "SUB1" (variable "X")) (variable "Y")))))
    ∷ Ruled (Replace 20 1 (2 ∷ 1 ∷ []) (call2 "PLUS" (variable "X") (variable "Y")) Backwards)
    ∷ Ruled (Cut 4 21 (call2 "EQUAL" (call2 "PLUS" (variable "X") (variable "Y")) (call1 "ADD1" (call2 "PLUS" (call1 "SUB1" (variable "X")) (variable "Y")))))
    ∷ Ruled (Replace 22 2 (1 ∷ 1 ∷ []) (call2 "PLUS" (call1 "SUB1" (variable "X")) (call1 "ADD1" (variable "Y"))) Backwards)
    ∷ Ruled (Replace 23 2 (1 ∷ []) (call2 "PLUS" (variable "X") (call1 "ADD1" (variable "Y"))) Backwards)
    ∷ Ruled (Cut 19 24 (call2 "EQUAL" (call2 "PLUS" (variable "X") (call1 "ADD1" (variable "Y"))) (call1 "ADD1" (call2 "PLUS" (call1 "SUB1" (variable "X")) (call1 "ADD1" (variable "Y"))))))
    ∷ Ruled (Cut 25 7 (call1 "ZEROP" (variable "X")))
    ∷ Ruled (Induct (call2 "EQUAL" (call2 "PLUS" (variable "X") (call1 "ADD1" (variable "Y"))) (call1 "ADD1" (call2 "PLUS" (variable "X") (variable "Y")))) (call1 "COUNT" (variable "X")) 1 18 (record { test = (call1 "NOT" (call1 "ZEROP" (variable "X"))); step = 26; hypotheses = (record { line = 2; pairs = ((codes "X", (call1 "SUB1" (variable "X"))) ∷ []) } ∷ []) } ∷ [])) ∷ []

pub sum_with_add1 : Derivable [] (clause sum_with_add1_clause)
unfolding symbols_of number_of
sum_with_add1 = everywhere (size_is_ordinal_clause ∷ size_falls_clause ∷ sum_at_zero_clause ∷ sum_at_positive_clause ∷ add1_of_fix_clause ∷ fix_of_add1_clause ∷ []) sum_with_add1_log sum_with_add1_clause refl (size_is_ordinal, (size_falls, (sum_at_zero, (sum_at_positive, (add1_of_fix, (fix_of_add1, tt)))))) refl

pub sum_with_add1_at : (h : History) (x y : Term) → IsTerm (symbols_of h) x → IsTerm (symbols_of h) y → Derivable h (clause ((call2 "EQUAL" (call2 "PLUS" x (call1 "ADD1" y)) (call1 "ADD1" (call2 "PLUS" x y))) ∷ []))
sum_with_add1_at h x y ox oy =
    by_law h [] (call2 "EQUAL" (call2 "PLUS" (variable "X") (call1 "ADD1" (variable "Y"))) (call1 "ADD1" (call2 "PLUS" (variable "X") (variable "Y")))) ((codes "X", x) ∷ (codes "Y", y) ∷ []) (grown sum_with_add1_clause sum_with_add1 h) tt ((equal_symbol h, ((plus_symbol h, ox), (add1_symbol h, oy))), (add1_symbol h, ((plus_symbol h, ox), oy)))

-- (NUMBERP (FIX X))
abbrev fix_is_number_log : List LogLine
fix_is_number_log =
    Ruled (AxiomRow (codes "FIX") 1 0)
    ∷ Ruled (AxiomRow (codes "IF") 2 0)
    ∷ Ruled (AxiomRow (codes "IF") 1 0)
    ∷ Ruled (Instance 3 ((codes "X", (call1 "NUMBERP" (variable "X"))) ∷ (codes "Y", (variable "X")) ∷ (codes "Z", (call0 "ZERO")) ∷ []))
    ∷ Ruled (Instance 4 ((codes "X", (call1 "NUMBERP" (variable "X"))) ∷ (codes "Y", (variable "X")) ∷ (codes "Z", (call0 "ZERO")) ∷ []))
    ∷ Ruled (Taut ((call1 "NUMBERP" (variable "X")) ∷ (call1 "NOT" (call1 "NUMBERP" (variable "X"))) ∷ []))
    ∷ Ruled (Replace 7 1 (1 ∷ []) (call3 "IF" (call1 "NUMBERP" (variable "X")) (variable "X") (call0 "ZERO")) Backwards)
    ∷ Ruled (Cut 5 8 (call2 "EQUAL" (call3 "IF" (call1 "NUMBERP" (variable "X")) (variable "X") (call0 "ZERO")) (variable "X")))
    ∷ Ruled (Replace 1 1 (1 ∷ []) (call3 "IF" (call1 "NUMBERP" (variable "X")) (variable "X") (call0 "ZERO")) Backwards)
    ∷ Ruled (Cut 6 10 (call2 "EQUAL" (call3 "IF" (call1 "NUMBERP" (variable "X")) (variable "X") (call0 "ZERO")) (call0 "ZERO")))
    ∷ Ruled (Cut 11 9 (call1 "NUMBERP" (variable "X")))
    ∷ Ruled (Replace 12 1 (1 ∷ []) (call1 "FIX" (variable "X")) Backwards)
    ∷ Ruled (Cut 2 13 (call2 "EQUAL" (call1 "FIX" (variable "X")) (call3 "IF" (call1 "NUMBERP" (variable "X")) (variable "X") (call0 "ZERO")))) ∷ []

pub fix_is_number : Derivable [] (clause fix_is_number_clause)
unfolding symbols_of number_of
fix_is_number = everywhere (zero_is_number_clause ∷ []) fix_is_number_log fix_is_number_clause refl (zero_is_number, tt) refl

pub fix_is_number_at : (h : History) (x : Term) → IsTerm (symbols_of h) x → Derivable h (clause ((call1 "NUMBERP" (call1 "FIX" x)) ∷ []))
fix_is_number_at h x ox =
    by_law h [] (call1 "NUMBERP" (call1 "FIX" (variable "X"))) ((codes "X", x) ∷ []) (grown fix_is_number_clause fix_is_number h) tt (numberp_symbol h, (fix_symbol h, ox))

-- (EQUAL (PLUS X (FIX Y)) (PLUS X Y))
abbrev sum_with_fix_log : List LogLine
sum_with_fix_log =
    Ruled (Taut ((call1 "NOT" (call1 "ZEROP" (variable "X"))) ∷ (call1 "NOT" (call1 "NOT" (call1 "ZEROP" (variable "X")))) ∷ []))
    ∷ Ruled (Reflexive (call1 "FIX" (variable "Y")))
    ∷ Ruled (Reflexive (call1 "ADD1" (call2 "PLUS" (call1 "SUB1" (variable "X")) (variable "Y"))))
    ∷ Ruled (Instance 1 ((codes "X", (call1 "FIX" (variable "X"))) ∷ []))
    ∷ Ruled (Cut 6 10 (call1 "NUMBERP" (call1 "FIX" (variable "X"))))
    ∷ Ruled (Instance 4 ((codes "Y", (call1 "FIX" (variable "Y"))) ∷ []))
    ∷ Ruled (Instance 11 ((codes "X", (variable "Y")) ∷ []))
    ∷ Ruled (Replace 8 1 (2 ∷ []) (call2 "PLUS" (variable "X") (variable "Y")) Backwards)
    ∷ Ruled (Cut 4 14 (call2 "EQUAL" (call2 "PLUS" (variable "X") (variable "Y")) (call1 "FIX" (variable "Y"))))
    ∷ Ruled (Replace 15 2 (1 ∷ []) (call1 "FIX" (call1 "FIX" (variable "Y"))) Backwards)
    ∷ Ruled (Cut 13 16 (call2 "EQUAL" (call1 "FIX" (call1 "FIX" (variable "Y"))) (call1 "FIX" (variable "Y"))))
    ∷ Ruled (Replace 17 2 (1 ∷ []) (call2 "PLUS" (variable "X") (call1 "FIX" (variable "Y"))) Backwards)
    ∷ Ruled (Cut 12 18 (call2 "EQUAL" (call2 "PLUS" (variable "X") (call1 "FIX" (variable "Y"))) (call1 "FIX" (call1 "FIX" (variable "Y")))))
    ∷ Ruled (Instance 5 ((codes "Y", (call1 "FIX" (variable "Y"))) ∷ []))
    ∷ Ruled (Replace 9 1 (2 ∷ []) (call2 "PLUS" (variable "X") (variable "Y")) Backwards)
    ∷ Ruled (Cut 5 21 (call2 "EQUAL" (call2 "PLUS" (variable "X") (variable "Y")) (call1 "ADD1" (call2 "PLUS" (call1 "SUB1" (variable "X")) (variable "Y")))))
    ∷ Ruled (Replace 22 2 (1 ∷ 1 ∷ []) (call2 "PLUS" (call1 "SUB1" (variable "X")) (call1 "FIX" (variable "Y"))) Backwards)
    ∷ Ruled (Replace 23 2 (1 ∷ []) (call2 "PLUS" (variable "X") (call1 "FIX" (variable "Y"))) Backwards)
    ∷ Ruled (Cut 20 24 (call2 "EQUAL" (call2 "PLUS" (variable "X") (call1 "FIX" (variable "Y"))) (call1 "ADD1" (call2 "PLUS" (call1 "SUB1" (variable "X")) (call1 "FIX" (variable "Y"))))))
    ∷ Ruled (Cut 25 7 (call1 "ZEROP" (variable "X")))
    ∷ Ruled (Induct (call2 "EQUAL" (call2 "PLUS" (variable "X") (call1 "FIX" (variable "Y"))) (call2 "PLUS" (variable "X") (variable "Y"))) (call1 "COUNT" (variable "X")) 2 19 (record { test = (call1 "NOT" (call1 "ZEROP" (variable "X"))); step = 26; hypotheses = (record { line = 3; pairs = ((codes "X", (call1 "SUB1" (variable "X"))) ∷ []) } ∷ []) } ∷ [])) ∷ []

pub sum_with_fix : Derivable [] (clause sum_with_fix_clause)
unfolding symbols_of number_of
sum_with_fix = everywhere (fix_of_number_clause ∷ size_is_ordinal_clause ∷ size_falls_clause ∷ sum_at_zero_clause ∷ sum_at_positive_clause ∷ fix_is_number_clause ∷ []) sum_with_fix_log sum_with_fix_clause refl (fix_of_number, (size_is_ordinal, (size_falls, (sum_at_zero, (sum_at_positive, (fix_is_number, tt)))))) refl

pub sum_with_fix_at : (h : History) (x y : Term) → IsTerm (symbols_of h) x → IsTerm (symbols_of h) y → Derivable h (clause ((call2 "EQUAL" (call2 "PLUS" x (call1 "FIX" y)) (call2 "PLUS" x y)) ∷ []))
sum_with_fix_at h x y ox oy =
    by_law h [] (call2 "EQUAL" (call2 "PLUS" (variable "X") (call1 "FIX" (variable "Y"))) (call2 "PLUS" (variable "X") (variable "Y"))) ((codes "X", x) ∷ (codes "Y", y) ∷ []) (grown sum_with_fix_clause sum_with_fix h) tt ((equal_symbol h, ((plus_symbol h, ox), (fix_symbol h, oy))), ((plus_symbol h, ox), oy))

pub laws_of_plus_hold : AreDerivable laws_of_plus
laws_of_plus_hold h = (grown sum_is_number_clause sum_is_number h, (grown sum_at_zero_clause sum_at_zero h, (grown sum_at_positive_clause sum_at_positive h, (grown sum_with_zero_clause sum_with_zero h, (grown add1_of_fix_clause add1_of_fix h, (grown fix_of_add1_clause fix_of_add1 h, (grown sum_with_add1_clause sum_with_add1 h, (grown fix_is_number_clause fix_is_number h, (grown sum_with_fix_clause sum_with_fix h, tt)))))))))
