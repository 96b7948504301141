-- Laws of DIFFERENCE, QUOTIENT and REMAINDER, which take another value as 0 in the ground history, each by a log over earlier ones, and at terms of any history.
use Rattle.std.proofs.Common.{List, [], ◌∷◌, refl}
use Rattle.std.specs.Prelude.{codes}
use Rattle.nq_logic.specs.Terms.{Term, IsTerm}
use Rattle.nq_logic.specs.Words.{variable, call0, call1, call2, call3}
use Rattle.nq_logic.specs.Histories.{History}
use Rattle.nq_logic.specs.Ground.{symbols_of}
use Rattle.nq_logic.specs.Numerals.{number_of}
use Rattle.nq_logic.specs.Formulas.{clause}
use Rattle.nq_logic.specs.Derivations.{Derivable}
use Rattle.nq_proof.specs.Rules.{AxiomRow, Cut, Instance, Reflexive, Replace, Backwards}
use Rattle.nq_proof.specs.Logs.{LogLine, Ruled}
use Rattle.nq_proof.proofs.SoundLogs.{everywhere, grown}
use Rattle.nq_proof.proofs.ByLaw.{by_law}
use Rattle.nq_laws.specs.Laws.{AreDerivable}
use Rattle.nq_logic.proofs.Symbols.{difference_symbol, equal_symbol, fix_symbol, quotient_symbol, remainder_symbol, zero_symbol}
use Rattle.nq_laws.specs.Fixes.{difference_of_zero_clause, difference_with_zero_clause, difference_of_fixes_clause, quotient_where_zero_clause, quotient_of_zero_clause, quotient_of_fixes_clause, remainder_where_zero_clause, remainder_of_zero_clause, remainder_of_fixes_clause, laws_of_fixes}
use Rattle.nq_laws.specs.Zero.{zero_is_zero_clause, fix_of_zero_clause, fix_of_positive_clause}
use Rattle.nq_laws.proofs.Zero.{zero_is_zero, fix_of_zero, fix_of_positive}
use Rattle.nq_laws.specs.Less.{zero_less_than_positive_clause}
use Rattle.nq_laws.proofs.Less.{zero_less_than_positive}
use Rattle.nq_laws.specs.Connectives.{if_of_truth_clause, truth_is_true_clause}
use Rattle.nq_laws.proofs.Connectives.{if_of_truth, truth_is_true}
use Rattle.nq_laws.specs.Quotients.{difference_from_zero_value_clause, quotient_by_zero_clause}
use Rattle.nq_laws.proofs.Quotients.{difference_from_zero_value, quotient_by_zero}

-- (NOT (ZEROP X)), (EQUAL (DIFFERENCE X Y) 0)
abbrev difference_of_zero_log : List LogLine
difference_of_zero_log =
    Ruled (Reflexive (call0 "ZERO"))
    ∷ Ruled (AxiomRow (codes "DIFFERENCE") 1 0)
    ∷ Ruled (Instance 1 ((codes "X", (call1 "ZEROP" (variable "X"))) ∷ (codes "Y", (call0 "ZERO")) ∷ (codes "Z", (call3 "IF" (call1 "ZEROP" (variable "Y")) (variable "X") (call2 "DIFFERENCE" (call1 "SUB1" (variable "X")) (call1 "SUB1" (variable "Y"))))) ∷ []))
    ∷ Ruled (Replace 2 1 (1 ∷ []) (call3 "IF" (call1 "ZEROP" (variable "X")) (call0 "ZERO") (call3 "IF" (call1 "ZEROP" (variable "Y")) (variable "X") (call2 "DIFFERENCE" (call1 "SUB1" (variable "X")) (call1 "SUB1" (variable "Y"))))) Backwards)
    ∷ Ruled (Cut 4 5 (call2 "EQUAL" (call3 "IF" (call1 "ZEROP" (variable "X")) (call0 "ZERO") (call3 "IF" (call1 "ZEROP" (variable "Y")) (variable "X") (call2 "DIFFERENCE" (call1 "SUB1" (variable "X")) (call1 "SUB1" (variable "Y"))))) (call0 "ZERO")))
    ∷ Ruled (Replace 6 2 (1 ∷ []) (call2 "DIFFERENCE" (variable "X") (variable "Y")) Backwards)
    ∷ Ruled (Cut 3 7 (call2 "EQUAL" (call2 "DIFFERENCE" (variable "X") (variable "Y")) (call3 "IF" (call1 "ZEROP" (variable "X")) (call0 "ZERO") (call3 "IF" (call1 "ZEROP" (variable "Y")) (variable "X") (call2 "DIFFERENCE" (call1 "SUB1" (variable "X")) (call1 "SUB1" (variable "Y"))))))) ∷ []

pub difference_of_zero : Derivable [] (clause difference_of_zero_clause)
unfolding symbols_of number_of
difference_of_zero = everywhere (if_of_truth_clause ∷ []) difference_of_zero_log difference_of_zero_clause refl (if_of_truth, tt) refl

pub difference_of_zero_at : (h : History) (x y : Term) → IsTerm (symbols_of h) x → IsTerm (symbols_of h) y → Derivable h (clause ((call1 "ZEROP" x) ∷ [])) → Derivable h (clause ((call2 "EQUAL" (call2 "DIFFERENCE" x y) (call0 "ZERO")) ∷ []))
difference_of_zero_at h x y ox oy d1 =
    by_law h ((call1 "ZEROP" (variable "X")) ∷ []) (call2 "EQUAL" (call2 "DIFFERENCE" (variable "X") (variable "Y")) (call0 "ZERO")) ((codes "X", x) ∷ (codes "Y", y) ∷ []) (grown difference_of_zero_clause difference_of_zero h) (d1, tt) ((equal_symbol h, ((difference_symbol h, ox), oy)), (zero_symbol h))

-- (NOT (ZEROP Y)), (ZEROP X), (EQUAL (DIFFERENCE X Y) X)
abbrev difference_with_zero_log : List LogLine
difference_with_zero_log =
    Ruled (AxiomRow (codes "IF") 1 0)
    ∷ Ruled (Reflexive (variable "X"))
    ∷ Ruled (AxiomRow (codes "DIFFERENCE") 1 0)
    ∷ Ruled (Instance 1 ((codes "X", (call1 "ZEROP" (variable "Y"))) ∷ (codes "Y", (variable "X")) ∷ (codes "Z", (call2 "DIFFERENCE" (call1 "SUB1" (variable "X")) (call1 "SUB1" (variable "Y")))) ∷ []))
    ∷ Ruled (Instance 2 ((codes "X", (call1 "ZEROP" (variable "X"))) ∷ (codes "Y", (call0 "ZERO")) ∷ (codes "Z", (variable "X")) ∷ []))
    ∷ Ruled (Replace 3 1 (1 ∷ []) (call3 "IF" (call1 "ZEROP" (variable "X")) (call0 "ZERO") (variable "X")) Backwards)
    ∷ Ruled (Cut 6 7 (call2 "EQUAL" (call3 "IF" (call1 "ZEROP" (variable "X")) (call0 "ZERO") (variable "X")) (variable "X")))
    ∷ Ruled (Replace 8 2 (1 ∷ 3 ∷ []) (call3 "IF" (call1 "ZEROP" (variable "Y")) (variable "X") (call2 "DIFFERENCE" (call1 "SUB1" (variable "X")) (call1 "SUB1" (variable "Y")))) Backwards)
    ∷ Ruled (Cut 5 9 (call2 "EQUAL" (call3 "IF" (call1 "ZEROP" (variable "Y")) (variable "X") (call2 "DIFFERENCE" (call1 "SUB1" (variable "X")) (call1 "SUB1" (variable "Y")))) (variable "X")))
    ∷ Ruled (Replace 10 3 (1 ∷ []) (call2 "DIFFERENCE" (variable "X") (variable "Y")) Backwards)
    ∷ Ruled (Cut 4 11 (call2 "EQUAL" (call2 "DIFFERENCE" (variable "X") (variable "Y")) (call3 "IF" (call1 "ZEROP" (variable "X")) (call0 "ZERO") (call3 "IF" (call1 "ZEROP" (variable "Y")) (variable "X") (call2 "DIFFERENCE" (call1 "SUB1" (variable "X")) (call1 "SUB1" (variable "Y"))))))) ∷ []

pub difference_with_zero : Derivable [] (clause difference_with_zero_clause)
unfolding symbols_of number_of
difference_with_zero = everywhere (if_of_truth_clause ∷ []) difference_with_zero_log difference_with_zero_clause refl (if_of_truth, tt) refl

-- (EQUAL (DIFFERENCE (FIX X) (FIX Y)) (DIFFERENCE X Y))
abbrev difference_of_fixes_log : List LogLine
difference_of_fixes_log =
    Ruled (Reflexive (call0 "ZERO"))
    ∷ Ruled (Reflexive (variable "X"))
    ∷ Ruled (Instance 2 ((codes "X", (variable "Y")) ∷ []))
    ∷ Ruled (Instance 3 ((codes "X", (variable "Y")) ∷ []))
    ∷ Ruled (Instance 6 ((codes "Y", (call0 "ZERO")) ∷ []))
    ∷ Ruled (Cut 1 11 (call1 "ZEROP" (call0 "ZERO")))
    ∷ Ruled (Instance 4 ((codes "Y", (call0 "ZERO")) ∷ []))
    ∷ Ruled (Replace 7 1 (2 ∷ []) (call2 "DIFFERENCE" (variable "X") (variable "Y")) Backwards)
    ∷ Ruled (Cut 5 14 (call2 "EQUAL" (call2 "DIFFERENCE" (variable "X") (variable "Y")) (call0 "ZERO")))
    ∷ Ruled (Replace 15 2 (1 ∷ []) (call2 "DIFFERENCE" (call0 "ZERO") (call0 "ZERO")) Backwards)
    ∷ Ruled (Cut 13 16 (call2 "EQUAL" (call2 "DIFFERENCE" (call0 "ZERO") (call0 "ZERO")) (call0 "ZERO")))
    ∷ Ruled (Replace 17 2 (1 ∷ 2 ∷ []) (call1 "FIX" (variable "Y")) Backwards)
    ∷ Ruled (Cut 9 18 (call2 "EQUAL" (call1 "FIX" (variable "Y")) (call0 "ZERO")))
    ∷ Ruled (Replace 19 3 (1 ∷ 1 ∷ []) (call1 "FIX" (variable "X")) Backwards)
    ∷ Ruled (Cut 2 20 (call2 "EQUAL" (call1 "FIX" (variable "X")) (call0 "ZERO")))
    ∷ Ruled (Replace 8 1 (2 ∷ []) (call2 "DIFFERENCE" (variable "X") (variable "Y")) Backwards)
    ∷ Ruled (Cut 6 22 (call2 "EQUAL" (call2 "DIFFERENCE" (variable "X") (variable "Y")) (variable "X")))
    ∷ Ruled (Replace 23 3 (1 ∷ []) (call2 "DIFFERENCE" (variable "X") (call0 "ZERO")) Backwards)
    ∷ Ruled (Cut 12 24 (call2 "EQUAL" (call2 "DIFFERENCE" (variable "X") (call0 "ZERO")) (variable "X")))
    ∷ Ruled (Replace 25 3 (1 ∷ 2 ∷ []) (call1 "FIX" (variable "Y")) Backwards)
    ∷ Ruled (Cut 9 26 (call2 "EQUAL" (call1 "FIX" (variable "Y")) (call0 "ZERO")))
    ∷ Ruled (Replace 27 3 (1 ∷ 1 ∷ []) (call1 "FIX" (variable "X")) Backwards)
    ∷ Ruled (Cut 3 28 (call2 "EQUAL" (call1 "FIX" (variable "X")) (variable "X")))
    ∷ Ruled (Cut 29 21 (call1 "ZEROP" (variable "X")))
    ∷ Ruled (Replace 15 2 (1 ∷ []) (call2 "DIFFERENCE" (call0 "ZERO") (variable "Y")) Backwards)
    ∷ Ruled (Cut 4 31 (call2 "EQUAL" (call2 "DIFFERENCE" (call0 "ZERO") (variable "Y")) (call0 "ZERO")))
    ∷ Ruled (Replace 32 2 (1 ∷ 2 ∷ []) (call1 "FIX" (variable "Y")) Backwards)
    ∷ Ruled (Cut 10 33 (call2 "EQUAL" (call1 "FIX" (variable "Y")) (variable "Y")))
    ∷ Ruled (Replace 34 3 (1 ∷ 1 ∷ []) (call1 "FIX" (variable "X")) Backwards)
    ∷ Ruled (Cut 2 35 (call2 "EQUAL" (call1 "FIX" (variable "X")) (call0 "ZERO")))
    ∷ Ruled (Reflexive (call2 "DIFFERENCE" (variable "X") (variable "Y")))
    ∷ Ruled (Replace 37 1 (1 ∷ 2 ∷ []) (call1 "FIX" (variable "Y")) Backwards)
    ∷ Ruled (Cut 10 38 (call2 "EQUAL" (call1 "FIX" (variable "Y")) (variable "Y")))
    ∷ Ruled (Replace 39 2 (1 ∷ 1 ∷ []) (call1 "FIX" (variable "X")) Backwards)
    ∷ Ruled (Cut 3 40 (call2 "EQUAL" (call1 "FIX" (variable "X")) (variable "X")))
    ∷ Ruled (Cut 41 36 (call1 "ZEROP" (variable "X")))
    ∷ Ruled (Cut 42 30 (call1 "ZEROP" (variable "Y"))) ∷ []

pub difference_of_fixes : Derivable [] (clause difference_of_fixes_clause)
unfolding symbols_of number_of
difference_of_fixes = everywhere (zero_is_zero_clause ∷ fix_of_zero_clause ∷ fix_of_positive_clause ∷ difference_from_zero_value_clause ∷ difference_of_zero_clause ∷ difference_with_zero_clause ∷ []) difference_of_fixes_log difference_of_fixes_clause refl (zero_is_zero, (fix_of_zero, (fix_of_positive, (difference_from_zero_value, (difference_of_zero, (difference_with_zero, tt)))))) refl

pub difference_of_fixes_at : (h : History) (x y : Term) → IsTerm (symbols_of h) x → IsTerm (symbols_of h) y → Derivable h (clause ((call2 "EQUAL" (call2 "DIFFERENCE" (call1 "FIX" x) (call1 "FIX" y)) (call2 "DIFFERENCE" x y)) ∷ []))
difference_of_fixes_at h x y ox oy =
    by_law h [] (call2 "EQUAL" (call2 "DIFFERENCE" (call1 "FIX" (variable "X")) (call1 "FIX" (variable "Y"))) (call2 "DIFFERENCE" (variable "X") (variable "Y"))) ((codes "X", x) ∷ (codes "Y", y) ∷ []) (grown difference_of_fixes_clause difference_of_fixes h) tt ((equal_symbol h, ((difference_symbol h, (fix_symbol h, ox)), (fix_symbol h, oy))), ((difference_symbol h, ox), oy))

-- (NOT (ZEROP Y)), (EQUAL (QUOTIENT X Y) 0)
abbrev quotient_where_zero_log : List LogLine
quotient_where_zero_log =
    Ruled (Reflexive (call0 "ZERO"))
    ∷ Ruled (AxiomRow (codes "QUOTIENT") 1 0)
    ∷ Ruled (Instance 1 ((codes "X", (call1 "ZEROP" (variable "Y"))) ∷ (codes "Y", (call0 "ZERO")) ∷ (codes "Z", (call3 "IF" (call2 "LESSP" (variable "X") (variable "Y")) (call0 "ZERO") (call1 "ADD1" (call2 "QUOTIENT" (call2 "DIFFERENCE" (variable "X") (variable "Y")) (variable "Y"))))) ∷ []))
    ∷ Ruled (Replace 2 1 (1 ∷ []) (call3 "IF" (call1 "ZEROP" (variable "Y")) (call0 "ZERO") (call3 "IF" (call2 "LESSP" (variable "X") (variable "Y")) (call0 "ZERO") (call1 "ADD1" (call2 "QUOTIENT" (call2 "DIFFERENCE" (variable "X") (variable "Y")) (variable "Y"))))) Backwards)
    ∷ Ruled (Cut 4 5 (call2 "EQUAL" (call3 "IF" (call1 "ZEROP" (variable "Y")) (call0 "ZERO") (call3 "IF" (call2 "LESSP" (variable "X") (variable "Y")) (call0 "ZERO") (call1 "ADD1" (call2 "QUOTIENT" (call2 "DIFFERENCE" (variable "X") (variable "Y")) (variable "Y"))))) (call0 "ZERO")))
    ∷ Ruled (Replace 6 2 (1 ∷ []) (call2 "QUOTIENT" (variable "X") (variable "Y")) Backwards)
    ∷ Ruled (Cut 3 7 (call2 "EQUAL" (call2 "QUOTIENT" (variable "X") (variable "Y")) (call3 "IF" (call1 "ZEROP" (variable "Y")) (call0 "ZERO") (call3 "IF" (call2 "LESSP" (variable "X") (variable "Y")) (call0 "ZERO") (call1 "ADD1" (call2 "QUOTIENT" (call2 "DIFFERENCE" (variable "X") (variable "Y")) (variable "Y"))))))) ∷ []

pub quotient_where_zero : Derivable [] (clause quotient_where_zero_clause)
unfolding symbols_of number_of
quotient_where_zero = everywhere (if_of_truth_clause ∷ []) quotient_where_zero_log quotient_where_zero_clause refl (if_of_truth, tt) refl

pub quotient_where_zero_at : (h : History) (x y : Term) → IsTerm (symbols_of h) x → IsTerm (symbols_of h) y → Derivable h (clause ((call1 "ZEROP" y) ∷ [])) → Derivable h (clause ((call2 "EQUAL" (call2 "QUOTIENT" x y) (call0 "ZERO")) ∷ []))
quotient_where_zero_at h x y ox oy d1 =
    by_law h ((call1 "ZEROP" (variable "Y")) ∷ []) (call2 "EQUAL" (call2 "QUOTIENT" (variable "X") (variable "Y")) (call0 "ZERO")) ((codes "X", x) ∷ (codes "Y", y) ∷ []) (grown quotient_where_zero_clause quotient_where_zero h) (d1, tt) ((equal_symbol h, ((quotient_symbol h, ox), oy)), (zero_symbol h))

-- (NOT (ZEROP X)), (EQUAL (QUOTIENT X Y) 0)
abbrev quotient_of_zero_log : List LogLine
quotient_of_zero_log =
    Ruled (AxiomRow (codes "IF") 1 0)
    ∷ Ruled (Reflexive (call0 "ZERO"))
    ∷ Ruled (AxiomRow (codes "QUOTIENT") 1 0)
    ∷ Ruled (Instance 1 ((codes "X", (call2 "LESSP" (variable "X") (variable "Y"))) ∷ (codes "Y", (call0 "ZERO")) ∷ (codes "Z", (call1 "ADD1" (call2 "QUOTIENT" (call2 "DIFFERENCE" (variable "X") (variable "Y")) (variable "Y")))) ∷ []))
    ∷ Ruled (Instance 1 ((codes "X", (call1 "ZEROP" (variable "Y"))) ∷ (codes "Y", (call0 "ZERO")) ∷ (codes "Z", (call0 "ZERO")) ∷ []))
    ∷ Ruled (Replace 5 1 (1 ∷ []) (call3 "IF" (call1 "ZEROP" (variable "Y")) (call0 "ZERO") (call0 "ZERO")) Backwards)
    ∷ Ruled (Cut 8 9 (call2 "EQUAL" (call3 "IF" (call1 "ZEROP" (variable "Y")) (call0 "ZERO") (call0 "ZERO")) (call0 "ZERO")))
    ∷ Ruled (Instance 4 ((codes "X", (call1 "ZEROP" (variable "Y"))) ∷ (codes "Y", (call0 "ZERO")) ∷ (codes "Z", (call0 "ZERO")) ∷ []))
    ∷ Ruled (Cut 11 9 (call2 "EQUAL" (call3 "IF" (call1 "ZEROP" (variable "Y")) (call0 "ZERO") (call0 "ZERO")) (call0 "ZERO")))
    ∷ Ruled (Cut 12 10 (call1 "ZEROP" (variable "Y")))
    ∷ Ruled (Replace 13 1 (1 ∷ 3 ∷ []) (call3 "IF" (call2 "LESSP" (variable "X") (variable "Y")) (call0 "ZERO") (call1 "ADD1" (call2 "QUOTIENT" (call2 "DIFFERENCE" (variable "X") (variable "Y")) (variable "Y")))) Backwards)
    ∷ Ruled (Cut 7 14 (call2 "EQUAL" (call3 "IF" (call2 "LESSP" (variable "X") (variable "Y")) (call0 "ZERO") (call1 "ADD1" (call2 "QUOTIENT" (call2 "DIFFERENCE" (variable "X") (variable "Y")) (variable "Y")))) (call0 "ZERO")))
    ∷ Ruled (Instance 4 ((codes "X", (call2 "LESSP" (variable "X") (variable "Y"))) ∷ (codes "Y", (call0 "ZERO")) ∷ (codes "Z", (call1 "ADD1" (call2 "QUOTIENT" (call2 "DIFFERENCE" (variable "X") (variable "Y")) (variable "Y")))) ∷ []))
    ∷ Ruled (Instance 1 ((codes "X", (call1 "ZEROP" (variable "Y"))) ∷ (codes "Y", (call0 "ZERO")) ∷ (codes "Z", (call1 "ADD1" (call2 "QUOTIENT" (call2 "DIFFERENCE" (variable "X") (variable "Y")) (variable "Y")))) ∷ []))
    ∷ Ruled (Replace 5 1 (1 ∷ []) (call3 "IF" (call1 "ZEROP" (variable "Y")) (call0 "ZERO") (call1 "ADD1" (call2 "QUOTIENT" (call2 "DIFFERENCE" (variable "X") (variable "Y")) (variable "Y")))) Backwards)
    ∷ Ruled (Cut 17 18 (call2 "EQUAL" (call3 "IF" (call1 "ZEROP" (variable "Y")) (call0 "ZERO") (call1 "ADD1" (call2 "QUOTIENT" (call2 "DIFFERENCE" (variable "X") (variable "Y")) (variable "Y")))) (call0 "ZERO")))
    ∷ Ruled (Replace 2 1 [] (call2 "LESSP" (variable "X") (variable "Y")) Backwards)
    ∷ Ruled (Cut 3 20 (call2 "EQUAL" (call2 "LESSP" (variable "X") (variable "Y")) (call0 "TRUE")))
    ∷ Ruled (Cut 21 19 (call1 "ZEROP" (variable "Y")))
    ∷ Ruled (Replace 22 3 (1 ∷ 3 ∷ []) (call3 "IF" (call2 "LESSP" (variable "X") (variable "Y")) (call0 "ZERO") (call1 "ADD1" (call2 "QUOTIENT" (call2 "DIFFERENCE" (variable "X") (variable "Y")) (variable "Y")))) Backwards)
    ∷ Ruled (Cut 16 23 (call2 "EQUAL" (call3 "IF" (call2 "LESSP" (variable "X") (variable "Y")) (call0 "ZERO") (call1 "ADD1" (call2 "QUOTIENT" (call2 "DIFFERENCE" (variable "X") (variable "Y")) (variable "Y")))) (call1 "ADD1" (call2 "QUOTIENT" (call2 "DIFFERENCE" (variable "X") (variable "Y")) (variable "Y")))))
    ∷ Ruled (Cut 24 15 (call2 "LESSP" (variable "X") (variable "Y")))
    ∷ Ruled (Replace 25 2 (1 ∷ []) (call2 "QUOTIENT" (variable "X") (variable "Y")) Backwards)
    ∷ Ruled (Cut 6 26 (call2 "EQUAL" (call2 "QUOTIENT" (variable "X") (variable "Y")) (call3 "IF" (call1 "ZEROP" (variable "Y")) (call0 "ZERO") (call3 "IF" (call2 "LESSP" (variable "X") (variable "Y")) (call0 "ZERO") (call1 "ADD1" (call2 "QUOTIENT" (call2 "DIFFERENCE" (variable "X") (variable "Y")) (variable "Y"))))))) ∷ []

pub quotient_of_zero : Derivable [] (clause quotient_of_zero_clause)
unfolding symbols_of number_of
quotient_of_zero = everywhere (if_of_truth_clause ∷ truth_is_true_clause ∷ zero_less_than_positive_clause ∷ []) quotient_of_zero_log quotient_of_zero_clause refl (if_of_truth, (truth_is_true, (zero_less_than_positive, tt))) refl

pub quotient_of_zero_at : (h : History) (x y : Term) → IsTerm (symbols_of h) x → IsTerm (symbols_of h) y → Derivable h (clause ((call1 "ZEROP" x) ∷ [])) → Derivable h (clause ((call2 "EQUAL" (call2 "QUOTIENT" x y) (call0 "ZERO")) ∷ []))
quotient_of_zero_at h x y ox oy d1 =
    by_law h ((call1 "ZEROP" (variable "X")) ∷ []) (call2 "EQUAL" (call2 "QUOTIENT" (variable "X") (variable "Y")) (call0 "ZERO")) ((codes "X", x) ∷ (codes "Y", y) ∷ []) (grown quotient_of_zero_clause quotient_of_zero h) (d1, tt) ((equal_symbol h, ((quotient_symbol h, ox), oy)), (zero_symbol h))

-- (EQUAL (QUOTIENT (FIX X) (FIX Y)) (QUOTIENT X Y))
abbrev quotient_of_fixes_log : List LogLine
quotient_of_fixes_log =
    Ruled (Reflexive (call0 "ZERO"))
    ∷ Ruled (Instance 2 ((codes "X", (variable "Y")) ∷ []))
    ∷ Ruled (Instance 3 ((codes "X", (variable "Y")) ∷ []))
    ∷ Ruled (Instance 6 ((codes "X", (call0 "ZERO")) ∷ []))
    ∷ Ruled (Cut 1 10 (call1 "ZEROP" (call0 "ZERO")))
    ∷ Ruled (Instance 4 ((codes "X", (call0 "ZERO")) ∷ []))
    ∷ Ruled (Replace 7 1 (2 ∷ []) (call2 "QUOTIENT" (variable "X") (variable "Y")) Backwards)
    ∷ Ruled (Cut 5 13 (call2 "EQUAL" (call2 "QUOTIENT" (variable "X") (variable "Y")) (call0 "ZERO")))
    ∷ Ruled (Replace 14 2 (1 ∷ []) (call2 "QUOTIENT" (call0 "ZERO") (call0 "ZERO")) Backwards)
    ∷ Ruled (Cut 12 15 (call2 "EQUAL" (call2 "QUOTIENT" (call0 "ZERO") (call0 "ZERO")) (call0 "ZERO")))
    ∷ Ruled (Replace 16 2 (1 ∷ 2 ∷ []) (call1 "FIX" (variable "Y")) Backwards)
    ∷ Ruled (Cut 8 17 (call2 "EQUAL" (call1 "FIX" (variable "Y")) (call0 "ZERO")))
    ∷ Ruled (Replace 18 2 (1 ∷ 1 ∷ []) (call1 "FIX" (variable "X")) Backwards)
    ∷ Ruled (Cut 2 19 (call2 "EQUAL" (call1 "FIX" (variable "X")) (call0 "ZERO")))
    ∷ Ruled (Replace 14 2 (1 ∷ []) (call2 "QUOTIENT" (variable "X") (call0 "ZERO")) Backwards)
    ∷ Ruled (Cut 4 21 (call2 "EQUAL" (call2 "QUOTIENT" (variable "X") (call0 "ZERO")) (call0 "ZERO")))
    ∷ Ruled (Replace 22 2 (1 ∷ 2 ∷ []) (call1 "FIX" (variable "Y")) Backwards)
    ∷ Ruled (Cut 8 23 (call2 "EQUAL" (call1 "FIX" (variable "Y")) (call0 "ZERO")))
    ∷ Ruled (Replace 24 2 (1 ∷ 1 ∷ []) (call1 "FIX" (variable "X")) Backwards)
    ∷ Ruled (Cut 3 25 (call2 "EQUAL" (call1 "FIX" (variable "X")) (variable "X")))
    ∷ Ruled (Cut 26 20 (call1 "ZEROP" (variable "X")))
    ∷ Ruled (Cut 6 13 (call2 "EQUAL" (call2 "QUOTIENT" (variable "X") (variable "Y")) (call0 "ZERO")))
    ∷ Ruled (Replace 28 2 (1 ∷ []) (call2 "QUOTIENT" (call0 "ZERO") (variable "Y")) Backwards)
    ∷ Ruled (Cut 11 29 (call2 "EQUAL" (call2 "QUOTIENT" (call0 "ZERO") (variable "Y")) (call0 "ZERO")))
    ∷ Ruled (Replace 30 2 (1 ∷ 2 ∷ []) (call1 "FIX" (variable "Y")) Backwards)
    ∷ Ruled (Cut 9 31 (call2 "EQUAL" (call1 "FIX" (variable "Y")) (variable "Y")))
    ∷ Ruled (Replace 32 3 (1 ∷ 1 ∷ []) (call1 "FIX" (variable "X")) Backwards)
    ∷ Ruled (Cut 2 33 (call2 "EQUAL" (call1 "FIX" (variable "X")) (call0 "ZERO")))
    ∷ Ruled (Reflexive (call2 "QUOTIENT" (variable "X") (variable "Y")))
    ∷ Ruled (Replace 35 1 (1 ∷ 2 ∷ []) (call1 "FIX" (variable "Y")) Backwards)
    ∷ Ruled (Cut 9 36 (call2 "EQUAL" (call1 "FIX" (variable "Y")) (variable "Y")))
    ∷ Ruled (Replace 37 2 (1 ∷ 1 ∷ []) (call1 "FIX" (variable "X")) Backwards)
    ∷ Ruled (Cut 3 38 (call2 "EQUAL" (call1 "FIX" (variable "X")) (variable "X")))
    ∷ Ruled (Cut 39 34 (call1 "ZEROP" (variable "X")))
    ∷ Ruled (Cut 40 27 (call1 "ZEROP" (variable "Y"))) ∷ []

pub quotient_of_fixes : Derivable [] (clause quotient_of_fixes_clause)
unfolding symbols_of number_of
quotient_of_fixes = everywhere (zero_is_zero_clause ∷ fix_of_zero_clause ∷ fix_of_positive_clause ∷ quotient_by_zero_clause ∷ quotient_where_zero_clause ∷ quotient_of_zero_clause ∷ []) quotient_of_fixes_log quotient_of_fixes_clause refl (zero_is_zero, (fix_of_zero, (fix_of_positive, (quotient_by_zero, (quotient_where_zero, (quotient_of_zero, tt)))))) refl

pub quotient_of_fixes_at : (h : History) (x y : Term) → IsTerm (symbols_of h) x → IsTerm (symbols_of h) y → Derivable h (clause ((call2 "EQUAL" (call2 "QUOTIENT" (call1 "FIX" x) (call1 "FIX" y)) (call2 "QUOTIENT" x y)) ∷ []))
quotient_of_fixes_at h x y ox oy =
    by_law h [] (call2 "EQUAL" (call2 "QUOTIENT" (call1 "FIX" (variable "X")) (call1 "FIX" (variable "Y"))) (call2 "QUOTIENT" (variable "X") (variable "Y"))) ((codes "X", x) ∷ (codes "Y", y) ∷ []) (grown quotient_of_fixes_clause quotient_of_fixes h) tt ((equal_symbol h, ((quotient_symbol h, (fix_symbol h, ox)), (fix_symbol h, oy))), ((quotient_symbol h, ox), oy))

-- (NOT (ZEROP Y)), (EQUAL (REMAINDER X Y) (FIX X))
abbrev remainder_where_zero_log : List LogLine
remainder_where_zero_log =
    Ruled (AxiomRow (codes "REMAINDER") 1 0)
    ∷ Ruled (Instance 1 ((codes "X", (call1 "ZEROP" (variable "Y"))) ∷ (codes "Y", (call1 "FIX" (variable "X"))) ∷ (codes "Z", (call3 "IF" (call2 "LESSP" (variable "X") (variable "Y")) (call1 "FIX" (variable "X")) (call2 "REMAINDER" (call2 "DIFFERENCE" (variable "X") (variable "Y")) (variable "Y")))) ∷ []))
    ∷ Ruled (Reflexive (call1 "FIX" (variable "X")))
    ∷ Ruled (Replace 4 1 (1 ∷ []) (call3 "IF" (call1 "ZEROP" (variable "Y")) (call1 "FIX" (variable "X")) (call3 "IF" (call2 "LESSP" (variable "X") (variable "Y")) (call1 "FIX" (variable "X")) (call2 "REMAINDER" (call2 "DIFFERENCE" (variable "X") (variable "Y")) (variable "Y")))) Backwards)
    ∷ Ruled (Cut 3 5 (call2 "EQUAL" (call3 "IF" (call1 "ZEROP" (variable "Y")) (call1 "FIX" (variable "X")) (call3 "IF" (call2 "LESSP" (variable "X") (variable "Y")) (call1 "FIX" (variable "X")) (call2 "REMAINDER" (call2 "DIFFERENCE" (variable "X") (variable "Y")) (variable "Y")))) (call1 "FIX" (variable "X"))))
    ∷ Ruled (Replace 6 2 (1 ∷ []) (call2 "REMAINDER" (variable "X") (variable "Y")) Backwards)
    ∷ Ruled (Cut 2 7 (call2 "EQUAL" (call2 "REMAINDER" (variable "X") (variable "Y")) (call3 "IF" (call1 "ZEROP" (variable "Y")) (call1 "FIX" (variable "X")) (call3 "IF" (call2 "LESSP" (variable "X") (variable "Y")) (call1 "FIX" (variable "X")) (call2 "REMAINDER" (call2 "DIFFERENCE" (variable "X") (variable "Y")) (variable "Y")))))) ∷ []

pub remainder_where_zero : Derivable [] (clause remainder_where_zero_clause)
unfolding symbols_of number_of
remainder_where_zero = everywhere (if_of_truth_clause ∷ []) remainder_where_zero_log remainder_where_zero_clause refl (if_of_truth, tt) refl

pub remainder_where_zero_at : (h : History) (x y : Term) → IsTerm (symbols_of h) x → IsTerm (symbols_of h) y → Derivable h (clause ((call1 "ZEROP" y) ∷ [])) → Derivable h (clause ((call2 "EQUAL" (call2 "REMAINDER" x y) (call1 "FIX" x)) ∷ []))
remainder_where_zero_at h x y ox oy d1 =
    by_law h ((call1 "ZEROP" (variable "Y")) ∷ []) (call2 "EQUAL" (call2 "REMAINDER" (variable "X") (variable "Y")) (call1 "FIX" (variable "X"))) ((codes "X", x) ∷ (codes "Y", y) ∷ []) (grown remainder_where_zero_clause remainder_where_zero h) (d1, tt) ((equal_symbol h, ((remainder_symbol h, ox), oy)), (fix_symbol h, ox))

-- (NOT (ZEROP X)), (EQUAL (REMAINDER X Y) 0)
abbrev remainder_of_zero_log : List LogLine
remainder_of_zero_log =
    Ruled (AxiomRow (codes "IF") 1 0)
    ∷ Ruled (Reflexive (call0 "ZERO"))
    ∷ Ruled (AxiomRow (codes "REMAINDER") 1 0)
    ∷ Ruled (Instance 1 ((codes "X", (call1 "ZEROP" (variable "Y"))) ∷ (codes "Y", (call0 "ZERO")) ∷ (codes "Z", (call0 "ZERO")) ∷ []))
    ∷ Ruled (Replace 6 1 (1 ∷ []) (call3 "IF" (call1 "ZEROP" (variable "Y")) (call0 "ZERO") (call0 "ZERO")) Backwards)
    ∷ Ruled (Cut 8 9 (call2 "EQUAL" (call3 "IF" (call1 "ZEROP" (variable "Y")) (call0 "ZERO") (call0 "ZERO")) (call0 "ZERO")))
    ∷ Ruled (Instance 5 ((codes "X", (call1 "ZEROP" (variable "Y"))) ∷ (codes "Y", (call0 "ZERO")) ∷ (codes "Z", (call0 "ZERO")) ∷ []))
    ∷ Ruled (Cut 11 9 (call2 "EQUAL" (call3 "IF" (call1 "ZEROP" (variable "Y")) (call0 "ZERO") (call0 "ZERO")) (call0 "ZERO")))
    ∷ Ruled (Cut 12 10 (call1 "ZEROP" (variable "Y")))
    ∷ Ruled (Replace 2 1 [] (call2 "LESSP" (variable "X") (variable "Y")) Backwards)
    ∷ Ruled (Cut 4 14 (call2 "EQUAL" (call2 "LESSP" (variable "X") (variable "Y")) (call0 "TRUE")))
    ∷ Ruled (Instance 1 ((codes "X", (call2 "LESSP" (variable "X") (variable "Y"))) ∷ (codes "Y", (call0 "ZERO")) ∷ (codes "Z", (call2 "REMAINDER" (call2 "DIFFERENCE" (variable "X") (variable "Y")) (variable "Y"))) ∷ []))
    ∷ Ruled (Replace 13 1 (1 ∷ 3 ∷ []) (call3 "IF" (call2 "LESSP" (variable "X") (variable "Y")) (call0 "ZERO") (call2 "REMAINDER" (call2 "DIFFERENCE" (variable "X") (variable "Y")) (variable "Y"))) Backwards)
    ∷ Ruled (Cut 16 17 (call2 "EQUAL" (call3 "IF" (call2 "LESSP" (variable "X") (variable "Y")) (call0 "ZERO") (call2 "REMAINDER" (call2 "DIFFERENCE" (variable "X") (variable "Y")) (variable "Y"))) (call0 "ZERO")))
    ∷ Ruled (Instance 5 ((codes "X", (call2 "LESSP" (variable "X") (variable "Y"))) ∷ (codes "Y", (call0 "ZERO")) ∷ (codes "Z", (call2 "REMAINDER" (call2 "DIFFERENCE" (variable "X") (variable "Y")) (variable "Y"))) ∷ []))
    ∷ Ruled (Instance 1 ((codes "X", (call1 "ZEROP" (variable "Y"))) ∷ (codes "Y", (call0 "ZERO")) ∷ (codes "Z", (call2 "REMAINDER" (call2 "DIFFERENCE" (variable "X") (variable "Y")) (variable "Y"))) ∷ []))
    ∷ Ruled (Replace 6 1 (1 ∷ []) (call3 "IF" (call1 "ZEROP" (variable "Y")) (call0 "ZERO") (call2 "REMAINDER" (call2 "DIFFERENCE" (variable "X") (variable "Y")) (variable "Y"))) Backwards)
    ∷ Ruled (Cut 20 21 (call2 "EQUAL" (call3 "IF" (call1 "ZEROP" (variable "Y")) (call0 "ZERO") (call2 "REMAINDER" (call2 "DIFFERENCE" (variable "X") (variable "Y")) (variable "Y"))) (call0 "ZERO")))
    ∷ Ruled (Cut 15 22 (call1 "ZEROP" (variable "Y")))
    ∷ Ruled (Replace 23 3 (1 ∷ 3 ∷ []) (call3 "IF" (call2 "LESSP" (variable "X") (variable "Y")) (call0 "ZERO") (call2 "REMAINDER" (call2 "DIFFERENCE" (variable "X") (variable "Y")) (variable "Y"))) Backwards)
    ∷ Ruled (Cut 19 24 (call2 "EQUAL" (call3 "IF" (call2 "LESSP" (variable "X") (variable "Y")) (call0 "ZERO") (call2 "REMAINDER" (call2 "DIFFERENCE" (variable "X") (variable "Y")) (variable "Y"))) (call2 "REMAINDER" (call2 "DIFFERENCE" (variable "X") (variable "Y")) (variable "Y"))))
    ∷ Ruled (Cut 25 18 (call2 "LESSP" (variable "X") (variable "Y")))
    ∷ Ruled (Replace 26 2 (1 ∷ 3 ∷ 2 ∷ []) (call1 "FIX" (variable "X")) Backwards)
    ∷ Ruled (Cut 3 27 (call2 "EQUAL" (call1 "FIX" (variable "X")) (call0 "ZERO")))
    ∷ Ruled (Replace 28 2 (1 ∷ 2 ∷ []) (call1 "FIX" (variable "X")) Backwards)
    ∷ Ruled (Cut 3 29 (call2 "EQUAL" (call1 "FIX" (variable "X")) (call0 "ZERO")))
    ∷ Ruled (Replace 30 2 (1 ∷ []) (call2 "REMAINDER" (variable "X") (variable "Y")) Backwards)
    ∷ Ruled (Cut 7 31 (call2 "EQUAL" (call2 "REMAINDER" (variable "X") (variable "Y")) (call3 "IF" (call1 "ZEROP" (variable "Y")) (call1 "FIX" (variable "X")) (call3 "IF" (call2 "LESSP" (variable "X") (variable "Y")) (call1 "FIX" (variable "X")) (call2 "REMAINDER" (call2 "DIFFERENCE" (variable "X") (variable "Y")) (variable "Y")))))) ∷ []

pub remainder_of_zero : Derivable [] (clause remainder_of_zero_clause)
unfolding symbols_of number_of
remainder_of_zero = everywhere (if_of_truth_clause ∷ truth_is_true_clause ∷ fix_of_zero_clause ∷ zero_less_than_positive_clause ∷ []) remainder_of_zero_log remainder_of_zero_clause refl (if_of_truth, (truth_is_true, (fix_of_zero, (zero_less_than_positive, tt)))) refl

pub remainder_of_zero_at : (h : History) (x y : Term) → IsTerm (symbols_of h) x → IsTerm (symbols_of h) y → Derivable h (clause ((call1 "ZEROP" x) ∷ [])) → Derivable h (clause ((call2 "EQUAL" (call2 "REMAINDER" x y) (call0 "ZERO")) ∷ []))
remainder_of_zero_at h x y ox oy d1 =
    by_law h ((call1 "ZEROP" (variable "X")) ∷ []) (call2 "EQUAL" (call2 "REMAINDER" (variable "X") (variable "Y")) (call0 "ZERO")) ((codes "X", x) ∷ (codes "Y", y) ∷ []) (grown remainder_of_zero_clause remainder_of_zero h) (d1, tt) ((equal_symbol h, ((remainder_symbol h, ox), oy)), (zero_symbol h))

-- (EQUAL (REMAINDER (FIX X) (FIX Y)) (REMAINDER X Y))
abbrev remainder_of_fixes_log : List LogLine
remainder_of_fixes_log =
    Ruled (Reflexive (call0 "ZERO"))
    ∷ Ruled (Reflexive (variable "X"))
    ∷ Ruled (Replace 7 1 (2 ∷ []) (call1 "FIX" (variable "X")) Backwards)
    ∷ Ruled (Cut 3 8 (call2 "EQUAL" (call1 "FIX" (variable "X")) (variable "X")))
    ∷ Ruled (Instance 2 ((codes "X", (variable "Y")) ∷ []))
    ∷ Ruled (Instance 3 ((codes "X", (variable "Y")) ∷ []))
    ∷ Ruled (Instance 5 ((codes "X", (call0 "ZERO")) ∷ []))
    ∷ Ruled (Cut 1 12 (call1 "ZEROP" (call0 "ZERO")))
    ∷ Ruled (Instance 4 ((codes "Y", (call0 "ZERO")) ∷ []))
    ∷ Ruled (Cut 1 14 (call1 "ZEROP" (call0 "ZERO")))
    ∷ Ruled (Instance 13 ((codes "Y", (call0 "ZERO")) ∷ []))
    ∷ Ruled (Replace 6 1 (2 ∷ []) (call2 "REMAINDER" (variable "X") (variable "Y")) Backwards)
    ∷ Ruled (Cut 5 17 (call2 "EQUAL" (call2 "REMAINDER" (variable "X") (variable "Y")) (call0 "ZERO")))
    ∷ Ruled (Replace 18 2 (1 ∷ []) (call2 "REMAINDER" (call0 "ZERO") (call0 "ZERO")) Backwards)
    ∷ Ruled (Cut 16 19 (call2 "EQUAL" (call2 "REMAINDER" (call0 "ZERO") (call0 "ZERO")) (call0 "ZERO")))
    ∷ Ruled (Replace 20 2 (1 ∷ 2 ∷ []) (call1 "FIX" (variable "Y")) Backwards)
    ∷ Ruled (Cut 10 21 (call2 "EQUAL" (call1 "FIX" (variable "Y")) (call0 "ZERO")))
    ∷ Ruled (Replace 22 3 (1 ∷ 1 ∷ []) (call1 "FIX" (variable "X")) Backwards)
    ∷ Ruled (Cut 2 23 (call2 "EQUAL" (call1 "FIX" (variable "X")) (call0 "ZERO")))
    ∷ Ruled (Replace 9 2 (2 ∷ []) (call2 "REMAINDER" (variable "X") (variable "Y")) Backwards)
    ∷ Ruled (Cut 4 25 (call2 "EQUAL" (call2 "REMAINDER" (variable "X") (variable "Y")) (call1 "FIX" (variable "X"))))
    ∷ Ruled (Replace 26 3 (1 ∷ []) (call1 "FIX" (variable "X")) Backwards)
    ∷ Ruled (Cut 3 27 (call2 "EQUAL" (call1 "FIX" (variable "X")) (variable "X")))
    ∷ Ruled (Replace 28 3 (1 ∷ []) (call2 "REMAINDER" (variable "X") (call0 "ZERO")) Backwards)
    ∷ Ruled (Cut 15 29 (call2 "EQUAL" (call2 "REMAINDER" (variable "X") (call0 "ZERO")) (call1 "FIX" (variable "X"))))
    ∷ Ruled (Replace 30 3 (1 ∷ 2 ∷ []) (call1 "FIX" (variable "Y")) Backwards)
    ∷ Ruled (Cut 10 31 (call2 "EQUAL" (call1 "FIX" (variable "Y")) (call0 "ZERO")))
    ∷ Ruled (Replace 32 3 (1 ∷ 1 ∷ []) (call1 "FIX" (variable "X")) Backwards)
    ∷ Ruled (Cut 3 33 (call2 "EQUAL" (call1 "FIX" (variable "X")) (variable "X")))
    ∷ Ruled (Cut 34 24 (call1 "ZEROP" (variable "X")))
    ∷ Ruled (Replace 18 2 (1 ∷ []) (call2 "REMAINDER" (call0 "ZERO") (variable "Y")) Backwards)
    ∷ Ruled (Cut 13 36 (call2 "EQUAL" (call2 "REMAINDER" (call0 "ZERO") (variable "Y")) (call0 "ZERO")))
    ∷ Ruled (Replace 37 2 (1 ∷ 2 ∷ []) (call1 "FIX" (variable "Y")) Backwards)
    ∷ Ruled (Cut 11 38 (call2 "EQUAL" (call1 "FIX" (variable "Y")) (variable "Y")))
    ∷ Ruled (Replace 39 3 (1 ∷ 1 ∷ []) (call1 "FIX" (variable "X")) Backwards)
    ∷ Ruled (Cut 2 40 (call2 "EQUAL" (call1 "FIX" (variable "X")) (call0 "ZERO")))
    ∷ Ruled (Reflexive (call2 "REMAINDER" (variable "X") (variable "Y")))
    ∷ Ruled (Replace 42 1 (1 ∷ 2 ∷ []) (call1 "FIX" (variable "Y")) Backwards)
    ∷ Ruled (Cut 11 43 (call2 "EQUAL" (call1 "FIX" (variable "Y")) (variable "Y")))
    ∷ Ruled (Replace 44 2 (1 ∷ 1 ∷ []) (call1 "FIX" (variable "X")) Backwards)
    ∷ Ruled (Cut 3 45 (call2 "EQUAL" (call1 "FIX" (variable "X")) (variable "X")))
    ∷ Ruled (Cut 46 41 (call1 "ZEROP" (variable "X")))
    ∷ Ruled (Cut 47 35 (call1 "ZEROP" (variable "Y"))) ∷ []

pub remainder_of_fixes : Derivable [] (clause remainder_of_fixes_clause)
unfolding symbols_of number_of
remainder_of_fixes = everywhere (zero_is_zero_clause ∷ fix_of_zero_clause ∷ fix_of_positive_clause ∷ remainder_where_zero_clause ∷ remainder_of_zero_clause ∷ []) remainder_of_fixes_log remainder_of_fixes_clause refl (zero_is_zero, (fix_of_zero, (fix_of_positive, (remainder_where_zero, (remainder_of_zero, tt))))) refl

pub remainder_of_fixes_at : (h : History) (x y : Term) → IsTerm (symbols_of h) x → IsTerm (symbols_of h) y → Derivable h (clause ((call2 "EQUAL" (call2 "REMAINDER" (call1 "FIX" x) (call1 "FIX" y)) (call2 "REMAINDER" x y)) ∷ []))
remainder_of_fixes_at h x y ox oy =
    by_law h [] (call2 "EQUAL" (call2 "REMAINDER" (call1 "FIX" (variable "X")) (call1 "FIX" (variable "Y"))) (call2 "REMAINDER" (variable "X") (variable "Y"))) ((codes "X", x) ∷ (codes "Y", y) ∷ []) (grown remainder_of_fixes_clause remainder_of_fixes h) tt ((equal_symbol h, ((remainder_symbol h, (fix_symbol h, ox)), (fix_symbol h, oy))), ((remainder_symbol h, ox), oy))

pub laws_of_fixes_hold : AreDerivable laws_of_fixes
laws_of_fixes_hold h = (grown difference_of_zero_clause difference_of_zero h, (grown difference_with_zero_clause difference_with_zero h, (grown difference_of_fixes_clause difference_of_fixes h, (grown quotient_where_zero_clause quotient_where_zero h, (grown quotient_of_zero_clause quotient_of_zero h, (grown quotient_of_fixes_clause quotient_of_fixes h, (grown remainder_where_zero_clause remainder_where_zero h, (grown remainder_of_zero_clause remainder_of_zero h, (grown remainder_of_fixes_clause remainder_of_fixes h, tt)))))))))
