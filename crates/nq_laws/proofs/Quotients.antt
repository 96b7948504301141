-- Laws of DIFFERENCE, QUOTIENT and REMAINDER in the ground history, each by a log over earlier ones, and at terms of any history.
use Rattle.std.proofs.Common.{List, [], ◌∷◌, refl}
use Rattle.std.specs.Prelude.{codes}
use Rattle.nq_logic.specs.Terms.{Term, IsTerm}
use Rattle.nq_logic.specs.Words.{variable, call0, call1, call2, call3}
use Rattle.nq_logic.specs.Histories.{History}
use Rattle.nq_logic.specs.Ground.{symbols_of}
use Rattle.nq_logic.specs.Numerals.{number_of}
use Rattle.nq_logic.specs.Formulas.{clause}
use Rattle.nq_logic.specs.Derivations.{Derivable}
use Rattle.nq_proof.specs.Rules.{Taut, AxiomRow, Cut, Instance, Reflexive, Replace, Backwards}
use Rattle.nq_proof.specs.Logs.{LogLine, Ruled}
use Rattle.nq_proof.proofs.SoundLogs.{everywhere, grown}
use Rattle.nq_proof.proofs.ByLaw.{by_law}
use Rattle.nq_laws.specs.Laws.{AreDerivable}
use Rattle.nq_logic.proofs.Symbols.{add1_symbol, difference_symbol, equal_symbol, quotient_symbol, remainder_symbol, zero_symbol}
use Rattle.nq_laws.specs.Quotients.{difference_from_zero_value_clause, difference_with_zero_value_clause, difference_step_clause, quotient_by_zero_clause, quotient_of_less_clause, quotient_step_clause, remainder_by_zero_clause, remainder_of_less_clause, remainder_step_clause, laws_of_quotients}
use Rattle.nq_laws.specs.Zero.{zero_is_zero_clause, add1_is_not_zero_clause, fix_of_number_clause}
use Rattle.nq_laws.proofs.Zero.{zero_is_zero, add1_is_not_zero, fix_of_number}
use Rattle.nq_laws.specs.Parts.{sub1_of_add1_clause}
use Rattle.nq_laws.proofs.Parts.{sub1_of_add1}
use Rattle.nq_laws.specs.Connectives.{if_of_truth_clause, truth_is_true_clause}
use Rattle.nq_laws.proofs.Connectives.{if_of_truth, truth_is_true}

-- (EQUAL (DIFFERENCE 0 Y) 0)
abbrev difference_from_zero_value_log : List LogLine
difference_from_zero_value_log =
    Ruled (AxiomRow (codes "IF") 1 0)
    ∷ Ruled (Reflexive (call0 "ZERO"))
    ∷ Ruled (AxiomRow (codes "DIFFERENCE") 1 0)
    ∷ Ruled (Instance 5 ((codes "X", (call0 "ZERO")) ∷ []))
    ∷ Ruled (Instance 1 ((codes "X", (call1 "ZEROP" (variable "Y"))) ∷ (codes "Y", (call0 "ZERO")) ∷ (codes "Z", (call2 "DIFFERENCE" (call1 "SUB1" (call0 "ZERO")) (call1 "SUB1" (variable "Y")))) ∷ []))
    ∷ Ruled (Instance 1 ((codes "X", (call1 "ZEROP" (call0 "ZERO"))) ∷ (codes "Y", (call0 "ZERO")) ∷ (codes "Z", (call0 "ZERO")) ∷ []))
    ∷ Ruled (Replace 4 1 (1 ∷ []) (call3 "IF" (call1 "ZEROP" (call0 "ZERO")) (call0 "ZERO") (call0 "ZERO")) Backwards)
    ∷ Ruled (Cut 8 9 (call2 "EQUAL" (call3 "IF" (call1 "ZEROP" (call0 "ZERO")) (call0 "ZERO") (call0 "ZERO")) (call0 "ZERO")))
    ∷ Ruled (Cut 2 10 (call1 "ZEROP" (call0 "ZERO")))
    ∷ Ruled (Replace 11 1 (1 ∷ 3 ∷ []) (call3 "IF" (call1 "ZEROP" (variable "Y")) (call0 "ZERO") (call2 "DIFFERENCE" (call1 "SUB1" (call0 "ZERO")) (call1 "SUB1" (variable "Y")))) Backwards)
    ∷ Ruled (Cut 7 12 (call2 "EQUAL" (call3 "IF" (call1 "ZEROP" (variable "Y")) (call0 "ZERO") (call2 "DIFFERENCE" (call1 "SUB1" (call0 "ZERO")) (call1 "SUB1" (variable "Y")))) (call0 "ZERO")))
    ∷ Ruled (Instance 3 ((codes "X", (call1 "ZEROP" (variable "Y"))) ∷ (codes "Y", (call0 "ZERO")) ∷ (codes "Z", (call2 "DIFFERENCE" (call1 "SUB1" (call0 "ZERO")) (call1 "SUB1" (variable "Y")))) ∷ []))
    ∷ Ruled (Instance 1 ((codes "X", (call1 "ZEROP" (call0 "ZERO"))) ∷ (codes "Y", (call0 "ZERO")) ∷ (codes "Z", (call2 "DIFFERENCE" (call1 "SUB1" (call0 "ZERO")) (call1 "SUB1" (variable "Y")))) ∷ []))
    ∷ Ruled (Replace 4 1 (1 ∷ []) (call3 "IF" (call1 "ZEROP" (call0 "ZERO")) (call0 "ZERO") (call2 "DIFFERENCE" (call1 "SUB1" (call0 "ZERO")) (call1 "SUB1" (variable "Y")))) Backwards)
    ∷ Ruled (Cut 15 16 (call2 "EQUAL" (call3 "IF" (call1 "ZEROP" (call0 "ZERO")) (call0 "ZERO") (call2 "DIFFERENCE" (call1 "SUB1" (call0 "ZERO")) (call1 "SUB1" (variable "Y")))) (call0 "ZERO")))
    ∷ Ruled (Cut 2 17 (call1 "ZEROP" (call0 "ZERO")))
    ∷ Ruled (Replace 18 1 (1 ∷ 3 ∷ []) (call3 "IF" (call1 "ZEROP" (variable "Y")) (call0 "ZERO") (call2 "DIFFERENCE" (call1 "SUB1" (call0 "ZERO")) (call1 "SUB1" (variable "Y")))) Backwards)
    ∷ Ruled (Cut 14 19 (call2 "EQUAL" (call3 "IF" (call1 "ZEROP" (variable "Y")) (call0 "ZERO") (call2 "DIFFERENCE" (call1 "SUB1" (call0 "ZERO")) (call1 "SUB1" (variable "Y")))) (call2 "DIFFERENCE" (call1 "SUB1" (call0 "ZERO")) (call1 "SUB1" (variable "Y")))))
    ∷ Ruled (Cut 20 13 (call1 "ZEROP" (variable "Y")))
    ∷ Ruled (Replace 21 1 (1 ∷ []) (call2 "DIFFERENCE" (call0 "ZERO") (variable "Y")) Backwards)
    ∷ Ruled (Cut 6 22 (call2 "EQUAL" (call2 "DIFFERENCE" (call0 "ZERO") (variable "Y")) (call3 "IF" (call1 "ZEROP" (call0 "ZERO")) (call0 "ZERO") (call3 "IF" (call1 "ZEROP" (variable "Y")) (call0 "ZERO") (call2 "DIFFERENCE" (call1 "SUB1" (call0 "ZERO")) (call1 "SUB1" (variable "Y"))))))) ∷ []

pub difference_from_zero_value : Derivable [] (clause difference_from_zero_value_clause)
unfolding symbols_of number_of
difference_from_zero_value = everywhere (if_of_truth_clause ∷ zero_is_zero_clause ∷ []) difference_from_zero_value_log difference_from_zero_value_clause refl (if_of_truth, (zero_is_zero, tt)) refl

pub difference_from_zero_value_at : (h : History) (y : Term) → IsTerm (symbols_of h) y → Derivable h (clause ((call2 "EQUAL" (call2 "DIFFERENCE" (call0 "ZERO") y) (call0 "ZERO")) ∷ []))
difference_from_zero_value_at h y oy =
    by_law h [] (call2 "EQUAL" (call2 "DIFFERENCE" (call0 "ZERO") (variable "Y")) (call0 "ZERO")) ((codes "Y", y) ∷ []) (grown difference_from_zero_value_clause difference_from_zero_value h) tt ((equal_symbol h, ((difference_symbol h, (zero_symbol h)), oy)), (zero_symbol h))

-- (EQUAL (DIFFERENCE (ADD1 A) 0) (ADD1 A))
abbrev difference_with_zero_value_log : List LogLine
difference_with_zero_value_log =
    Ruled (AxiomRow (codes "IF") 1 0)
    ∷ Ruled (AxiomRow (codes "FALSE") 1 0)
    ∷ Ruled (Instance 3 ((codes "X", (variable "A")) ∷ []))
    ∷ Ruled (Reflexive (call1 "ADD1" (variable "A")))
    ∷ Ruled (AxiomRow (codes "DIFFERENCE") 1 0)
    ∷ Ruled (Instance 8 ((codes "X", (call1 "ADD1" (variable "A"))) ∷ (codes "Y", (call0 "ZERO")) ∷ []))
    ∷ Ruled (Instance 4 ((codes "X", (call0 "FALSE")) ∷ (codes "Y", (call0 "ZERO")) ∷ (codes "Z", (call3 "IF" (call1 "ZEROP" (call0 "ZERO")) (call1 "ADD1" (variable "A")) (call2 "DIFFERENCE" (call1 "SUB1" (call1 "ADD1" (variable "A"))) (call1 "SUB1" (call0 "ZERO"))))) ∷ []))
    ∷ Ruled (Cut 10 5 (call0 "FALSE"))
    ∷ Ruled (Instance 1 ((codes "X", (call1 "ZEROP" (call0 "ZERO"))) ∷ (codes "Y", (call1 "ADD1" (variable "A"))) ∷ (codes "Z", (call2 "DIFFERENCE" (call1 "SUB1" (call1 "ADD1" (variable "A"))) (call1 "SUB1" (call0 "ZERO")))) ∷ []))
    ∷ Ruled (Replace 7 1 (1 ∷ []) (call3 "IF" (call1 "ZEROP" (call0 "ZERO")) (call1 "ADD1" (variable "A")) (call2 "DIFFERENCE" (call1 "SUB1" (call1 "ADD1" (variable "A"))) (call1 "SUB1" (call0 "ZERO")))) Backwards)
    ∷ Ruled (Cut 12 13 (call2 "EQUAL" (call3 "IF" (call1 "ZEROP" (call0 "ZERO")) (call1 "ADD1" (variable "A")) (call2 "DIFFERENCE" (call1 "SUB1" (call1 "ADD1" (variable "A"))) (call1 "SUB1" (call0 "ZERO")))) (call1 "ADD1" (variable "A"))))
    ∷ Ruled (Cut 2 14 (call1 "ZEROP" (call0 "ZERO")))
    ∷ Ruled (Replace 15 1 (1 ∷ []) (call3 "IF" (call0 "FALSE") (call0 "ZERO") (call3 "IF" (call1 "ZEROP" (call0 "ZERO")) (call1 "ADD1" (variable "A")) (call2 "DIFFERENCE" (call1 "SUB1" (call1 "ADD1" (variable "A"))) (call1 "SUB1" (call0 "ZERO"))))) Backwards)
    ∷ Ruled (Cut 11 16 (call2 "EQUAL" (call3 "IF" (call0 "FALSE") (call0 "ZERO") (call3 "IF" (call1 "ZEROP" (call0 "ZERO")) (call1 "ADD1" (variable "A")) (call2 "DIFFERENCE" (call1 "SUB1" (call1 "ADD1" (variable "A"))) (call1 "SUB1" (call0 "ZERO"))))) (call3 "IF" (call1 "ZEROP" (call0 "ZERO")) (call1 "ADD1" (variable "A")) (call2 "DIFFERENCE" (call1 "SUB1" (call1 "ADD1" (variable "A"))) (call1 "SUB1" (call0 "ZERO"))))))
    ∷ Ruled (Replace 17 1 (1 ∷ 1 ∷ []) (call1 "ZEROP" (call1 "ADD1" (variable "A"))) Backwards)
    ∷ Ruled (Cut 6 18 (call2 "EQUAL" (call1 "ZEROP" (call1 "ADD1" (variable "A"))) (call0 "FALSE")))
    ∷ Ruled (Replace 19 1 (1 ∷ []) (call2 "DIFFERENCE" (call1 "ADD1" (variable "A")) (call0 "ZERO")) Backwards)
    ∷ Ruled (Cut 9 20 (call2 "EQUAL" (call2 "DIFFERENCE" (call1 "ADD1" (variable "A")) (call0 "ZERO")) (call3 "IF" (call1 "ZEROP" (call1 "ADD1" (variable "A"))) (call0 "ZERO") (call3 "IF" (call1 "ZEROP" (call0 "ZERO")) (call1 "ADD1" (variable "A")) (call2 "DIFFERENCE" (call1 "SUB1" (call1 "ADD1" (variable "A"))) (call1 "SUB1" (call0 "ZERO"))))))) ∷ []

pub difference_with_zero_value : Derivable [] (clause difference_with_zero_value_clause)
unfolding symbols_of number_of
difference_with_zero_value = everywhere (if_of_truth_clause ∷ zero_is_zero_clause ∷ add1_is_not_zero_clause ∷ []) difference_with_zero_value_log difference_with_zero_value_clause refl (if_of_truth, (zero_is_zero, (add1_is_not_zero, tt))) refl

pub difference_with_zero_value_at : (h : History) (a : Term) → IsTerm (symbols_of h) a → Derivable h (clause ((call2 "EQUAL" (call2 "DIFFERENCE" (call1 "ADD1" a) (call0 "ZERO")) (call1 "ADD1" a)) ∷ []))
difference_with_zero_value_at h a oa =
    by_law h [] (call2 "EQUAL" (call2 "DIFFERENCE" (call1 "ADD1" (variable "A")) (call0 "ZERO")) (call1 "ADD1" (variable "A"))) ((codes "A", a) ∷ []) (grown difference_with_zero_value_clause difference_with_zero_value h) tt ((equal_symbol h, ((difference_symbol h, (add1_symbol h, oa)), (zero_symbol h))), (add1_symbol h, oa))

-- (NOT (NUMBERP A)), (NOT (NUMBERP B)), (NOT (EQUAL (DIFFERENCE A B) C)), (EQUAL (DIFFERENCE (ADD1 A) (ADD1 B)) C)
abbrev difference_step_log : List LogLine
difference_step_log =
    Ruled (AxiomRow (codes "IF") 1 0)
    ∷ Ruled (AxiomRow (codes "FALSE") 1 0)
    ∷ Ruled (Instance 2 ((codes "X", (variable "A")) ∷ []))
    ∷ Ruled (Instance 1 ((codes "X1", (variable "A")) ∷ []))
    ∷ Ruled (Instance 1 ((codes "X1", (variable "B")) ∷ []))
    ∷ Ruled (Reflexive (variable "C"))
    ∷ Ruled (AxiomRow (codes "DIFFERENCE") 1 0)
    ∷ Ruled (Instance 9 ((codes "X", (call1 "ADD1" (variable "A"))) ∷ (codes "Y", (call1 "ADD1" (variable "B"))) ∷ []))
    ∷ Ruled (Instance 2 ((codes "X", (variable "B")) ∷ []))
    ∷ Ruled (Instance 3 ((codes "X", (call0 "FALSE")) ∷ (codes "Y", (call1 "ADD1" (variable "A"))) ∷ (codes "Z", (variable "C")) ∷ []))
    ∷ Ruled (Cut 12 4 (call0 "FALSE"))
    ∷ Ruled (Instance 3 ((codes "X", (call0 "FALSE")) ∷ (codes "Y", (call0 "ZERO")) ∷ (codes "Z", (variable "C")) ∷ []))
    ∷ Ruled (Cut 14 4 (call0 "FALSE"))
    ∷ Ruled (Replace 8 1 (1 ∷ []) (call3 "IF" (call0 "FALSE") (call0 "ZERO") (variable "C")) Backwards)
    ∷ Ruled (Cut 15 16 (call2 "EQUAL" (call3 "IF" (call0 "FALSE") (call0 "ZERO") (variable "C")) (variable "C")))
    ∷ Ruled (Replace 17 1 (1 ∷ 3 ∷ []) (call3 "IF" (call0 "FALSE") (call1 "ADD1" (variable "A")) (variable "C")) Backwards)
    ∷ Ruled (Cut 13 18 (call2 "EQUAL" (call3 "IF" (call0 "FALSE") (call1 "ADD1" (variable "A")) (variable "C")) (variable "C")))
    ∷ Ruled (Replace 19 1 (1 ∷ 3 ∷ 3 ∷ []) (call2 "DIFFERENCE" (variable "A") (variable "B")) Backwards)
    ∷ Ruled (Replace 20 1 (1 ∷ 3 ∷ 3 ∷ 2 ∷ []) (call1 "SUB1" (call1 "ADD1" (variable "B"))) Backwards)
    ∷ Ruled (Cut 7 21 (call2 "EQUAL" (call1 "SUB1" (call1 "ADD1" (variable "B"))) (variable "B")))
    ∷ Ruled (Replace 22 2 (1 ∷ 3 ∷ 3 ∷ 1 ∷ []) (call1 "SUB1" (call1 "ADD1" (variable "A"))) Backwards)
    ∷ Ruled (Cut 6 23 (call2 "EQUAL" (call1 "SUB1" (call1 "ADD1" (variable "A"))) (variable "A")))
    ∷ Ruled (Replace 24 3 (1 ∷ 3 ∷ 1 ∷ []) (call1 "ZEROP" (call1 "ADD1" (variable "B"))) Backwards)
    ∷ Ruled (Cut 11 25 (call2 "EQUAL" (call1 "ZEROP" (call1 "ADD1" (variable "B"))) (call0 "FALSE")))
    ∷ Ruled (Replace 26 3 (1 ∷ 1 ∷ []) (call1 "ZEROP" (call1 "ADD1" (variable "A"))) Backwards)
    ∷ Ruled (Cut 5 27 (call2 "EQUAL" (call1 "ZEROP" (call1 "ADD1" (variable "A"))) (call0 "FALSE")))
    ∷ Ruled (Replace 28 3 (1 ∷ []) (call2 "DIFFERENCE" (call1 "ADD1" (variable "A")) (call1 "ADD1" (variable "B"))) Backwards)
    ∷ Ruled (Cut 10 29 (call2 "EQUAL" (call2 "DIFFERENCE" (call1 "ADD1" (variable "A")) (call1 "ADD1" (variable "B"))) (call3 "IF" (call1 "ZEROP" (call1 "ADD1" (variable "A"))) (call0 "ZERO") (call3 "IF" (call1 "ZEROP" (call1 "ADD1" (variable "B"))) (call1 "ADD1" (variable "A")) (call2 "DIFFERENCE" (call1 "SUB1" (call1 "ADD1" (variable "A"))) (call1 "SUB1" (call1 "ADD1" (variable "B"))))))))
    ∷ Ruled (Taut ((call1 "NOT" (call2 "EQUAL" (call2 "DIFFERENCE" (call1 "ADD1" (variable "A")) (call1 "ADD1" (variable "B"))) (variable "C"))) ∷ (call2 "EQUAL" (call2 "DIFFERENCE" (call1 "ADD1" (variable "A")) (call1 "ADD1" (variable "B"))) (variable "C")) ∷ []))
    ∷ Ruled (Cut 30 31 (call2 "EQUAL" (call2 "DIFFERENCE" (call1 "ADD1" (variable "A")) (call1 "ADD1" (variable "B"))) (variable "C"))) ∷ []

pub difference_step : Derivable [] (clause difference_step_clause)
unfolding symbols_of number_of
difference_step = everywhere (sub1_of_add1_clause ∷ add1_is_not_zero_clause ∷ []) difference_step_log difference_step_clause refl (sub1_of_add1, (add1_is_not_zero, tt)) refl

pub difference_step_at : (h : History) (a b c : Term) → IsTerm (symbols_of h) a → IsTerm (symbols_of h) b → IsTerm (symbols_of h) c → Derivable h (clause ((call1 "NUMBERP" a) ∷ [])) → Derivable h (clause ((call1 "NUMBERP" b) ∷ [])) → Derivable h (clause ((call2 "EQUAL" (call2 "DIFFERENCE" a b) c) ∷ [])) → Derivable h (clause ((call2 "EQUAL" (call2 "DIFFERENCE" (call1 "ADD1" a) (call1 "ADD1" b)) c) ∷ []))
difference_step_at h a b c oa ob oc d1 d2 d3 =
    by_law h ((call1 "NUMBERP" (variable "A")) ∷ (call1 "NUMBERP" (variable "B")) ∷ (call2 "EQUAL" (call2 "DIFFERENCE" (variable "A") (variable "B")) (variable "C")) ∷ []) (call2 "EQUAL" (call2 "DIFFERENCE" (call1 "ADD1" (variable "A")) (call1 "ADD1" (variable "B"))) (variable "C")) ((codes "A", a) ∷ (codes "B", b) ∷ (codes "C", c) ∷ []) (grown difference_step_clause difference_step h) (d1, (d2, (d3, tt))) ((equal_symbol h, ((difference_symbol h, (add1_symbol h, oa)), (add1_symbol h, ob))), oc)

-- (EQUAL (QUOTIENT X 0) 0)
abbrev quotient_by_zero_log : List LogLine
quotient_by_zero_log =
    Ruled (AxiomRow (codes "IF") 1 0)
    ∷ Ruled (Reflexive (call0 "ZERO"))
    ∷ Ruled (Instance 1 ((codes "X", (call1 "ZEROP" (call0 "ZERO"))) ∷ (codes "Y", (call0 "ZERO")) ∷ (codes "Z", (call0 "ZERO")) ∷ []))
    ∷ Ruled (Replace 4 1 (1 ∷ []) (call3 "IF" (call1 "ZEROP" (call0 "ZERO")) (call0 "ZERO") (call0 "ZERO")) Backwards)
    ∷ Ruled (Cut 5 6 (call2 "EQUAL" (call3 "IF" (call1 "ZEROP" (call0 "ZERO")) (call0 "ZERO") (call0 "ZERO")) (call0 "ZERO")))
    ∷ Ruled (Cut 2 7 (call1 "ZEROP" (call0 "ZERO")))
    ∷ Ruled (AxiomRow (codes "QUOTIENT") 1 0)
    ∷ Ruled (Instance 9 ((codes "Y", (call0 "ZERO")) ∷ []))
    ∷ Ruled (Instance 1 ((codes "X", (call2 "LESSP" (variable "X") (call0 "ZERO"))) ∷ (codes "Y", (call0 "ZERO")) ∷ (codes "Z", (call1 "ADD1" (call2 "QUOTIENT" (call2 "DIFFERENCE" (variable "X") (call0 "ZERO")) (call0 "ZERO")))) ∷ []))
    ∷ Ruled (Replace 8 1 (1 ∷ 3 ∷ []) (call3 "IF" (call2 "LESSP" (variable "X") (call0 "ZERO")) (call0 "ZERO") (call1 "ADD1" (call2 "QUOTIENT" (call2 "DIFFERENCE" (variable "X") (call0 "ZERO")) (call0 "ZERO")))) Backwards)
    ∷ Ruled (Cut 11 12 (call2 "EQUAL" (call3 "IF" (call2 "LESSP" (variable "X") (call0 "ZERO")) (call0 "ZERO") (call1 "ADD1" (call2 "QUOTIENT" (call2 "DIFFERENCE" (variable "X") (call0 "ZERO")) (call0 "ZERO")))) (call0 "ZERO")))
    ∷ Ruled (Instance 3 ((codes "X", (call2 "LESSP" (variable "X") (call0 "ZERO"))) ∷ (codes "Y", (call0 "ZERO")) ∷ (codes "Z", (call1 "ADD1" (call2 "QUOTIENT" (call2 "DIFFERENCE" (variable "X") (call0 "ZERO")) (call0 "ZERO")))) ∷ []))
    ∷ Ruled (Instance 1 ((codes "X", (call1 "ZEROP" (call0 "ZERO"))) ∷ (codes "Y", (call0 "ZERO")) ∷ (codes "Z", (call1 "ADD1" (call2 "QUOTIENT" (call2 "DIFFERENCE" (variable "X") (call0 "ZERO")) (call0 "ZERO")))) ∷ []))
    ∷ Ruled (Replace 4 1 (1 ∷ []) (call3 "IF" (call1 "ZEROP" (call0 "ZERO")) (call0 "ZERO") (call1 "ADD1" (call2 "QUOTIENT" (call2 "DIFFERENCE" (variable "X") (call0 "ZERO")) (call0 "ZERO")))) Backwards)
    ∷ Ruled (Cut 15 16 (call2 "EQUAL" (call3 "IF" (call1 "ZEROP" (call0 "ZERO")) (call0 "ZERO") (call1 "ADD1" (call2 "QUOTIENT" (call2 "DIFFERENCE" (variable "X") (call0 "ZERO")) (call0 "ZERO")))) (call0 "ZERO")))
    ∷ Ruled (Cut 2 17 (call1 "ZEROP" (call0 "ZERO")))
    ∷ Ruled (Replace 18 1 (1 ∷ 3 ∷ []) (call3 "IF" (call2 "LESSP" (variable "X") (call0 "ZERO")) (call0 "ZERO") (call1 "ADD1" (call2 "QUOTIENT" (call2 "DIFFERENCE" (variable "X") (call0 "ZERO")) (call0 "ZERO")))) Backwards)
    ∷ Ruled (Cut 14 19 (call2 "EQUAL" (call3 "IF" (call2 "LESSP" (variable "X") (call0 "ZERO")) (call0 "ZERO") (call1 "ADD1" (call2 "QUOTIENT" (call2 "DIFFERENCE" (variable "X") (call0 "ZERO")) (call0 "ZERO")))) (call1 "ADD1" (call2 "QUOTIENT" (call2 "DIFFERENCE" (variable "X") (call0 "ZERO")) (call0 "ZERO")))))
    ∷ Ruled (Cut 20 13 (call2 "LESSP" (variable "X") (call0 "ZERO")))
    ∷ Ruled (Replace 21 1 (1 ∷ []) (call2 "QUOTIENT" (variable "X") (call0 "ZERO")) Backwards)
    ∷ Ruled (Cut 10 22 (call2 "EQUAL" (call2 "QUOTIENT" (variable "X") (call0 "ZERO")) (call3 "IF" (call1 "ZEROP" (call0 "ZERO")) (call0 "ZERO") (call3 "IF" (call2 "LESSP" (variable "X") (call0 "ZERO")) (call0 "ZERO") (call1 "ADD1" (call2 "QUOTIENT" (call2 "DIFFERENCE" (variable "X") (call0 "ZERO")) (call0 "ZERO"))))))) ∷ []

pub quotient_by_zero : Derivable [] (clause quotient_by_zero_clause)
unfolding symbols_of number_of
quotient_by_zero = everywhere (if_of_truth_clause ∷ zero_is_zero_clause ∷ []) quotient_by_zero_log quotient_by_zero_clause refl (if_of_truth, (zero_is_zero, tt)) refl

pub quotient_by_zero_at : (h : History) (x : Term) → IsTerm (symbols_of h) x → Derivable h (clause ((call2 "EQUAL" (call2 "QUOTIENT" x (call0 "ZERO")) (call0 "ZERO")) ∷ []))
quotient_by_zero_at h x ox =
    by_law h [] (call2 "EQUAL" (call2 "QUOTIENT" (variable "X") (call0 "ZERO")) (call0 "ZERO")) ((codes "X", x) ∷ []) (grown quotient_by_zero_clause quotient_by_zero h) tt ((equal_symbol h, ((quotient_symbol h, ox), (zero_symbol h))), (zero_symbol h))

-- (NOT (EQUAL (LESSP X (ADD1 B)) T)), (EQUAL (QUOTIENT X (ADD1 B)) 0)
abbrev quotient_of_less_log : List LogLine
quotient_of_less_log =
    Ruled (AxiomRow (codes "IF") 1 0)
    ∷ Ruled (Reflexive (call0 "ZERO"))
    ∷ Ruled (AxiomRow (codes "FALSE") 1 0)
    ∷ Ruled (Instance 3 ((codes "X", (variable "B")) ∷ []))
    ∷ Ruled (AxiomRow (codes "QUOTIENT") 1 0)
    ∷ Ruled (Instance 8 ((codes "Y", (call1 "ADD1" (variable "B"))) ∷ []))
    ∷ Ruled (Instance 1 ((codes "X", (call0 "TRUE")) ∷ (codes "Y", (call0 "ZERO")) ∷ (codes "Z", (call1 "ADD1" (call2 "QUOTIENT" (call2 "DIFFERENCE" (variable "X") (call1 "ADD1" (variable "B"))) (call1 "ADD1" (variable "B"))))) ∷ []))
    ∷ Ruled (Cut 2 10 (call0 "TRUE"))
    ∷ Ruled (Instance 4 ((codes "X", (call0 "FALSE")) ∷ (codes "Y", (call0 "ZERO")) ∷ (codes "Z", (call0 "ZERO")) ∷ []))
    ∷ Ruled (Cut 12 6 (call0 "FALSE"))
    ∷ Ruled (Replace 5 1 (1 ∷ []) (call3 "IF" (call0 "FALSE") (call0 "ZERO") (call0 "ZERO")) Backwards)
    ∷ Ruled (Cut 13 14 (call2 "EQUAL" (call3 "IF" (call0 "FALSE") (call0 "ZERO") (call0 "ZERO")) (call0 "ZERO")))
    ∷ Ruled (Replace 15 1 (1 ∷ 3 ∷ []) (call3 "IF" (call0 "TRUE") (call0 "ZERO") (call1 "ADD1" (call2 "QUOTIENT" (call2 "DIFFERENCE" (variable "X") (call1 "ADD1" (variable "B"))) (call1 "ADD1" (variable "B"))))) Backwards)
    ∷ Ruled (Cut 11 16 (call2 "EQUAL" (call3 "IF" (call0 "TRUE") (call0 "ZERO") (call1 "ADD1" (call2 "QUOTIENT" (call2 "DIFFERENCE" (variable "X") (call1 "ADD1" (variable "B"))) (call1 "ADD1" (variable "B"))))) (call0 "ZERO")))
    ∷ Ruled (Replace 17 1 (1 ∷ 1 ∷ []) (call1 "ZEROP" (call1 "ADD1" (variable "B"))) Backwards)
    ∷ Ruled (Cut 7 18 (call2 "EQUAL" (call1 "ZEROP" (call1 "ADD1" (variable "B"))) (call0 "FALSE")))
    ∷ Ruled (Replace 19 1 (1 ∷ 3 ∷ 1 ∷ []) (call2 "LESSP" (variable "X") (call1 "ADD1" (variable "B"))) Backwards)
    ∷ Ruled (Replace 20 1 (1 ∷ []) (call2 "QUOTIENT" (variable "X") (call1 "ADD1" (variable "B"))) Backwards)
    ∷ Ruled (Cut 9 21 (call2 "EQUAL" (call2 "QUOTIENT" (variable "X") (call1 "ADD1" (variable "B"))) (call3 "IF" (call1 "ZEROP" (call1 "ADD1" (variable "B"))) (call0 "ZERO") (call3 "IF" (call2 "LESSP" (variable "X") (call1 "ADD1" (variable "B"))) (call0 "ZERO") (call1 "ADD1" (call2 "QUOTIENT" (call2 "DIFFERENCE" (variable "X") (call1 "ADD1" (variable "B"))) (call1 "ADD1" (variable "B"))))))))
    ∷ Ruled (Taut ((call1 "NOT" (call2 "EQUAL" (call2 "QUOTIENT" (variable "X") (call1 "ADD1" (variable "B"))) (call0 "ZERO"))) ∷ (call2 "EQUAL" (call2 "QUOTIENT" (variable "X") (call1 "ADD1" (variable "B"))) (call0 "ZERO")) ∷ []))
    ∷ Ruled (Cut 22 23 (call2 "EQUAL" (call2 "QUOTIENT" (variable "X") (call1 "ADD1" (variable "B"))) (call0 "ZERO"))) ∷ []

pub quotient_of_less : Derivable [] (clause quotient_of_less_clause)
unfolding symbols_of number_of
quotient_of_less = everywhere (if_of_truth_clause ∷ truth_is_true_clause ∷ add1_is_not_zero_clause ∷ []) quotient_of_less_log quotient_of_less_clause refl (if_of_truth, (truth_is_true, (add1_is_not_zero, tt))) refl

pub quotient_of_less_at : (h : History) (b x : Term) → IsTerm (symbols_of h) b → IsTerm (symbols_of h) x → Derivable h (clause ((call2 "EQUAL" (call2 "LESSP" x (call1 "ADD1" b)) (call0 "TRUE")) ∷ [])) → Derivable h (clause ((call2 "EQUAL" (call2 "QUOTIENT" x (call1 "ADD1" b)) (call0 "ZERO")) ∷ []))
quotient_of_less_at h b x ob ox d1 =
    by_law h ((call2 "EQUAL" (call2 "LESSP" (variable "X") (call1 "ADD1" (variable "B"))) (call0 "TRUE")) ∷ []) (call2 "EQUAL" (call2 "QUOTIENT" (variable "X") (call1 "ADD1" (variable "B"))) (call0 "ZERO")) ((codes "B", b) ∷ (codes "X", x) ∷ []) (grown quotient_of_less_clause quotient_of_less h) (d1, tt) ((equal_symbol h, ((quotient_symbol h, ox), (add1_symbol h, ob))), (zero_symbol h))

-- (NOT (EQUAL (QUOTIENT C (ADD1 B)) D)), (NOT (EQUAL (DIFFERENCE A (ADD1 B)) C)), (NOT (EQUAL (LESSP A (ADD1 B)) F)), (EQUAL (QUOTIENT A (ADD1 B)) (ADD1 D))
abbrev quotient_step_log : List LogLine
quotient_step_log =
    Ruled (AxiomRow (codes "IF") 1 0)
    ∷ Ruled (AxiomRow (codes "FALSE") 1 0)
    ∷ Ruled (Instance 1 ((codes "X", (variable "B")) ∷ []))
    ∷ Ruled (AxiomRow (codes "QUOTIENT") 1 0)
    ∷ Ruled (Instance 5 ((codes "X", (variable "A")) ∷ (codes "Y", (call1 "ADD1" (variable "B"))) ∷ []))
    ∷ Ruled (Instance 2 ((codes "X", (call0 "FALSE")) ∷ (codes "Y", (call0 "ZERO")) ∷ (codes "Z", (call1 "ADD1" (variable "D"))) ∷ []))
    ∷ Ruled (Cut 7 3 (call0 "FALSE"))
    ∷ Ruled (Reflexive (call1 "ADD1" (variable "D")))
    ∷ Ruled (Replace 9 1 (1 ∷ []) (call3 "IF" (call0 "FALSE") (call0 "ZERO") (call1 "ADD1" (variable "D"))) Backwards)
    ∷ Ruled (Cut 8 10 (call2 "EQUAL" (call3 "IF" (call0 "FALSE") (call0 "ZERO") (call1 "ADD1" (variable "D"))) (call1 "ADD1" (variable "D"))))
    ∷ Ruled (Replace 11 1 (1 ∷ 3 ∷ []) (call3 "IF" (call0 "FALSE") (call0 "ZERO") (call1 "ADD1" (variable "D"))) Backwards)
    ∷ Ruled (Cut 8 12 (call2 "EQUAL" (call3 "IF" (call0 "FALSE") (call0 "ZERO") (call1 "ADD1" (variable "D"))) (call1 "ADD1" (variable "D"))))
    ∷ Ruled (Replace 13 1 (1 ∷ 1 ∷ []) (call1 "ZEROP" (call1 "ADD1" (variable "B"))) Backwards)
    ∷ Ruled (Cut 4 14 (call2 "EQUAL" (call1 "ZEROP" (call1 "ADD1" (variable "B"))) (call0 "FALSE")))
    ∷ Ruled (Replace 15 1 (1 ∷ 3 ∷ 3 ∷ 1 ∷ []) (call2 "QUOTIENT" (variable "C") (call1 "ADD1" (variable "B"))) Backwards)
    ∷ Ruled (Replace 16 1 (1 ∷ 3 ∷ 3 ∷ 1 ∷ 1 ∷ []) (call2 "DIFFERENCE" (variable "A") (call1 "ADD1" (variable "B"))) Backwards)
    ∷ Ruled (Replace 17 1 (1 ∷ 3 ∷ 1 ∷ []) (call2 "LESSP" (variable "A") (call1 "ADD1" (variable "B"))) Backwards)
    ∷ Ruled (Replace 18 1 (1 ∷ []) (call2 "QUOTIENT" (variable "A") (call1 "ADD1" (variable "B"))) Backwards)
    ∷ Ruled (Cut 6 19 (call2 "EQUAL" (call2 "QUOTIENT" (variable "A") (call1 "ADD1" (variable "B"))) (call3 "IF" (call1 "ZEROP" (call1 "ADD1" (variable "B"))) (call0 "ZERO") (call3 "IF" (call2 "LESSP" (variable "A") (call1 "ADD1" (variable "B"))) (call0 "ZERO") (call1 "ADD1" (call2 "QUOTIENT" (call2 "DIFFERENCE" (variable "A") (call1 "ADD1" (variable "B"))) (call1 "ADD1" (variable "B"))))))))
    ∷ Ruled (Taut ((call1 "NOT" (call2 "EQUAL" (call2 "QUOTIENT" (variable "A") (call1 "ADD1" (variable "B"))) (call1 "ADD1" (variable "D")))) ∷ (call2 "EQUAL" (call2 "QUOTIENT" (variable "A") (call1 "ADD1" (variable "B"))) (call1 "ADD1" (variable "D"))) ∷ []))
    ∷ Ruled (Cut 20 21 (call2 "EQUAL" (call2 "QUOTIENT" (variable "A") (call1 "ADD1" (variable "B"))) (call1 "ADD1" (variable "D")))) ∷ []

pub quotient_step : Derivable [] (clause quotient_step_clause)
unfolding symbols_of number_of
quotient_step = everywhere (add1_is_not_zero_clause ∷ []) quotient_step_log quotient_step_clause refl (add1_is_not_zero, tt) refl

pub quotient_step_at : (h : History) (a b c d : Term) → IsTerm (symbols_of h) a → IsTerm (symbols_of h) b → IsTerm (symbols_of h) c → IsTerm (symbols_of h) d → Derivable h (clause ((call2 "EQUAL" (call2 "LESSP" a (call1 "ADD1" b)) (call0 "FALSE")) ∷ [])) → Derivable h (clause ((call2 "EQUAL" (call2 "DIFFERENCE" a (call1 "ADD1" b)) c) ∷ [])) → Derivable h (clause ((call2 "EQUAL" (call2 "QUOTIENT" c (call1 "ADD1" b)) d) ∷ [])) → Derivable h (clause ((call2 "EQUAL" (call2 "QUOTIENT" a (call1 "ADD1" b)) (call1 "ADD1" d)) ∷ []))
quotient_step_at h a b c d oa ob oc od d1 d2 d3 =
    by_law h ((call2 "EQUAL" (call2 "QUOTIENT" (variable "C") (call1 "ADD1" (variable "B"))) (variable "D")) ∷ (call2 "EQUAL" (call2 "DIFFERENCE" (variable "A") (call1 "ADD1" (variable "B"))) (variable "C")) ∷ (call2 "EQUAL" (call2 "LESSP" (variable "A") (call1 "ADD1" (variable "B"))) (call0 "FALSE")) ∷ []) (call2 "EQUAL" (call2 "QUOTIENT" (variable "A") (call1 "ADD1" (variable "B"))) (call1 "ADD1" (variable "D"))) ((codes "A", a) ∷ (codes "B", b) ∷ (codes "C", c) ∷ (codes "D", d) ∷ []) (grown quotient_step_clause quotient_step h) (d3, (d2, (d1, tt))) ((equal_symbol h, ((quotient_symbol h, oa), (add1_symbol h, ob))), (add1_symbol h, od))

-- (NOT (NUMBERP X)), (EQUAL (REMAINDER X 0) X)
abbrev remainder_by_zero_log : List LogLine
remainder_by_zero_log =
    Ruled (AxiomRow (codes "IF") 1 0)
    ∷ Ruled (Reflexive (variable "X"))
    ∷ Ruled (AxiomRow (codes "REMAINDER") 1 0)
    ∷ Ruled (Instance 6 ((codes "Y", (call0 "ZERO")) ∷ []))
    ∷ Ruled (Instance 1 ((codes "X", (call2 "LESSP" (variable "X") (call0 "ZERO"))) ∷ (codes "Y", (variable "X")) ∷ (codes "Z", (call2 "REMAINDER" (call2 "DIFFERENCE" (variable "X") (call0 "ZERO")) (call0 "ZERO"))) ∷ []))
    ∷ Ruled (Instance 1 ((codes "X", (call1 "ZEROP" (call0 "ZERO"))) ∷ (codes "Y", (variable "X")) ∷ (codes "Z", (variable "X")) ∷ []))
    ∷ Ruled (Replace 5 1 (1 ∷ []) (call3 "IF" (call1 "ZEROP" (call0 "ZERO")) (variable "X") (variable "X")) Backwards)
    ∷ Ruled (Cut 9 10 (call2 "EQUAL" (call3 "IF" (call1 "ZEROP" (call0 "ZERO")) (variable "X") (variable "X")) (variable "X")))
    ∷ Ruled (Cut 2 11 (call1 "ZEROP" (call0 "ZERO")))
    ∷ Ruled (Replace 12 1 (1 ∷ 3 ∷ []) (call3 "IF" (call2 "LESSP" (variable "X") (call0 "ZERO")) (variable "X") (call2 "REMAINDER" (call2 "DIFFERENCE" (variable "X") (call0 "ZERO")) (call0 "ZERO"))) Backwards)
    ∷ Ruled (Cut 8 13 (call2 "EQUAL" (call3 "IF" (call2 "LESSP" (variable "X") (call0 "ZERO")) (variable "X") (call2 "REMAINDER" (call2 "DIFFERENCE" (variable "X") (call0 "ZERO")) (call0 "ZERO"))) (variable "X")))
    ∷ Ruled (Instance 4 ((codes "X", (call2 "LESSP" (variable "X") (call0 "ZERO"))) ∷ (codes "Y", (variable "X")) ∷ (codes "Z", (call2 "REMAINDER" (call2 "DIFFERENCE" (variable "X") (call0 "ZERO")) (call0 "ZERO"))) ∷ []))
    ∷ Ruled (Instance 1 ((codes "X", (call1 "ZEROP" (call0 "ZERO"))) ∷ (codes "Y", (variable "X")) ∷ (codes "Z", (call2 "REMAINDER" (call2 "DIFFERENCE" (variable "X") (call0 "ZERO")) (call0 "ZERO"))) ∷ []))
    ∷ Ruled (Replace 5 1 (1 ∷ []) (call3 "IF" (call1 "ZEROP" (call0 "ZERO")) (variable "X") (call2 "REMAINDER" (call2 "DIFFERENCE" (variable "X") (call0 "ZERO")) (call0 "ZERO"))) Backwards)
    ∷ Ruled (Cut 16 17 (call2 "EQUAL" (call3 "IF" (call1 "ZEROP" (call0 "ZERO")) (variable "X") (call2 "REMAINDER" (call2 "DIFFERENCE" (variable "X") (call0 "ZERO")) (call0 "ZERO"))) (variable "X")))
    ∷ Ruled (Cut 2 18 (call1 "ZEROP" (call0 "ZERO")))
    ∷ Ruled (Replace 19 1 (1 ∷ 3 ∷ []) (call3 "IF" (call2 "LESSP" (variable "X") (call0 "ZERO")) (variable "X") (call2 "REMAINDER" (call2 "DIFFERENCE" (variable "X") (call0 "ZERO")) (call0 "ZERO"))) Backwards)
    ∷ Ruled (Cut 15 20 (call2 "EQUAL" (call3 "IF" (call2 "LESSP" (variable "X") (call0 "ZERO")) (variable "X") (call2 "REMAINDER" (call2 "DIFFERENCE" (variable "X") (call0 "ZERO")) (call0 "ZERO"))) (call2 "REMAINDER" (call2 "DIFFERENCE" (variable "X") (call0 "ZERO")) (call0 "ZERO"))))
    ∷ Ruled (Cut 21 14 (call2 "LESSP" (variable "X") (call0 "ZERO")))
    ∷ Ruled (Replace 22 1 (1 ∷ 3 ∷ 2 ∷ []) (call1 "FIX" (variable "X")) Backwards)
    ∷ Ruled (Cut 3 23 (call2 "EQUAL" (call1 "FIX" (variable "X")) (variable "X")))
    ∷ Ruled (Replace 24 2 (1 ∷ 2 ∷ []) (call1 "FIX" (variable "X")) Backwards)
    ∷ Ruled (Cut 3 25 (call2 "EQUAL" (call1 "FIX" (variable "X")) (variable "X")))
    ∷ Ruled (Replace 26 2 (1 ∷ []) (call2 "REMAINDER" (variable "X") (call0 "ZERO")) Backwards)
    ∷ Ruled (Cut 7 27 (call2 "EQUAL" (call2 "REMAINDER" (variable "X") (call0 "ZERO")) (call3 "IF" (call1 "ZEROP" (call0 "ZERO")) (call1 "FIX" (variable "X")) (call3 "IF" (call2 "LESSP" (variable "X") (call0 "ZERO")) (call1 "FIX" (variable "X")) (call2 "REMAINDER" (call2 "DIFFERENCE" (variable "X") (call0 "ZERO")) (call0 "ZERO")))))) ∷ []

pub remainder_by_zero : Derivable [] (clause remainder_by_zero_clause)
unfolding symbols_of number_of
remainder_by_zero = everywhere (if_of_truth_clause ∷ zero_is_zero_clause ∷ fix_of_number_clause ∷ []) remainder_by_zero_log remainder_by_zero_clause refl (if_of_truth, (zero_is_zero, (fix_of_number, tt))) refl

pub remainder_by_zero_at : (h : History) (x : Term) → IsTerm (symbols_of h) x → Derivable h (clause ((call1 "NUMBERP" x) ∷ [])) → Derivable h (clause ((call2 "EQUAL" (call2 "REMAINDER" x (call0 "ZERO")) x) ∷ []))
remainder_by_zero_at h x ox d1 =
    by_law h ((call1 "NUMBERP" (variable "X")) ∷ []) (call2 "EQUAL" (call2 "REMAINDER" (variable "X") (call0 "ZERO")) (variable "X")) ((codes "X", x) ∷ []) (grown remainder_by_zero_clause remainder_by_zero h) (d1, tt) ((equal_symbol h, ((remainder_symbol h, ox), (zero_symbol h))), ox)

-- (NOT (NUMBERP X)), (NOT (EQUAL (LESSP X (ADD1 B)) T)), (EQUAL (REMAINDER X (ADD1 B)) X)
abbrev remainder_of_less_log : List LogLine
remainder_of_less_log =
    Ruled (AxiomRow (codes "IF") 1 0)
    ∷ Ruled (AxiomRow (codes "FALSE") 1 0)
    ∷ Ruled (Reflexive (variable "X"))
    ∷ Ruled (Instance 3 ((codes "X", (variable "B")) ∷ []))
    ∷ Ruled (AxiomRow (codes "REMAINDER") 1 0)
    ∷ Ruled (Instance 9 ((codes "Y", (call1 "ADD1" (variable "B"))) ∷ []))
    ∷ Ruled (Instance 1 ((codes "X", (call0 "TRUE")) ∷ (codes "Y", (variable "X")) ∷ (codes "Z", (call2 "REMAINDER" (call2 "DIFFERENCE" (variable "X") (call1 "ADD1" (variable "B"))) (call1 "ADD1" (variable "B")))) ∷ []))
    ∷ Ruled (Cut 2 11 (call0 "TRUE"))
    ∷ Ruled (Instance 5 ((codes "X", (call0 "FALSE")) ∷ (codes "Y", (variable "X")) ∷ (codes "Z", (variable "X")) ∷ []))
    ∷ Ruled (Cut 13 6 (call0 "FALSE"))
    ∷ Ruled (Replace 7 1 (1 ∷ []) (call3 "IF" (call0 "FALSE") (variable "X") (variable "X")) Backwards)
    ∷ Ruled (Cut 14 15 (call2 "EQUAL" (call3 "IF" (call0 "FALSE") (variable "X") (variable "X")) (variable "X")))
    ∷ Ruled (Replace 16 1 (1 ∷ 3 ∷ []) (call3 "IF" (call0 "TRUE") (variable "X") (call2 "REMAINDER" (call2 "DIFFERENCE" (variable "X") (call1 "ADD1" (variable "B"))) (call1 "ADD1" (variable "B")))) Backwards)
    ∷ Ruled (Cut 12 17 (call2 "EQUAL" (call3 "IF" (call0 "TRUE") (variable "X") (call2 "REMAINDER" (call2 "DIFFERENCE" (variable "X") (call1 "ADD1" (variable "B"))) (call1 "ADD1" (variable "B")))) (variable "X")))
    ∷ Ruled (Replace 18 1 (1 ∷ 3 ∷ 2 ∷ []) (call1 "FIX" (variable "X")) Backwards)
    ∷ Ruled (Cut 4 19 (call2 "EQUAL" (call1 "FIX" (variable "X")) (variable "X")))
    ∷ Ruled (Replace 20 2 (1 ∷ 2 ∷ []) (call1 "FIX" (variable "X")) Backwards)
    ∷ Ruled (Cut 4 21 (call2 "EQUAL" (call1 "FIX" (variable "X")) (variable "X")))
    ∷ Ruled (Replace 22 2 (1 ∷ 1 ∷ []) (call1 "ZEROP" (call1 "ADD1" (variable "B"))) Backwards)
    ∷ Ruled (Cut 8 23 (call2 "EQUAL" (call1 "ZEROP" (call1 "ADD1" (variable "B"))) (call0 "FALSE")))
    ∷ Ruled (Replace 24 2 (1 ∷ 3 ∷ 1 ∷ []) (call2 "LESSP" (variable "X") (call1 "ADD1" (variable "B"))) Backwards)
    ∷ Ruled (Replace 25 2 (1 ∷ []) (call2 "REMAINDER" (variable "X") (call1 "ADD1" (variable "B"))) Backwards)
    ∷ Ruled (Cut 10 26 (call2 "EQUAL" (call2 "REMAINDER" (variable "X") (call1 "ADD1" (variable "B"))) (call3 "IF" (call1 "ZEROP" (call1 "ADD1" (variable "B"))) (call1 "FIX" (variable "X")) (call3 "IF" (call2 "LESSP" (variable "X") (call1 "ADD1" (variable "B"))) (call1 "FIX" (variable "X")) (call2 "REMAINDER" (call2 "DIFFERENCE" (variable "X") (call1 "ADD1" (variable "B"))) (call1 "ADD1" (variable "B")))))))
    ∷ Ruled (Taut ((call1 "NOT" (call2 "EQUAL" (call2 "REMAINDER" (variable "X") (call1 "ADD1" (variable "B"))) (variable "X"))) ∷ (call2 "EQUAL" (call2 "REMAINDER" (variable "X") (call1 "ADD1" (variable "B"))) (variable "X")) ∷ []))
    ∷ Ruled (Cut 27 28 (call2 "EQUAL" (call2 "REMAINDER" (variable "X") (call1 "ADD1" (variable "B"))) (variable "X"))) ∷ []

pub remainder_of_less : Derivable [] (clause remainder_of_less_clause)
unfolding symbols_of number_of
remainder_of_less = everywhere (if_of_truth_clause ∷ truth_is_true_clause ∷ add1_is_not_zero_clause ∷ fix_of_number_clause ∷ []) remainder_of_less_log remainder_of_less_clause refl (if_of_truth, (truth_is_true, (add1_is_not_zero, (fix_of_number, tt)))) refl

pub remainder_of_less_at : (h : History) (b x : Term) → IsTerm (symbols_of h) b → IsTerm (symbols_of h) x → Derivable h (clause ((call1 "NUMBERP" x) ∷ [])) → Derivable h (clause ((call2 "EQUAL" (call2 "LESSP" x (call1 "ADD1" b)) (call0 "TRUE")) ∷ [])) → Derivable h (clause ((call2 "EQUAL" (call2 "REMAINDER" x (call1 "ADD1" b)) x) ∷ []))
remainder_of_less_at h b x ob ox d1 d2 =
    by_law h ((call1 "NUMBERP" (variable "X")) ∷ (call2 "EQUAL" (call2 "LESSP" (variable "X") (call1 "ADD1" (variable "B"))) (call0 "TRUE")) ∷ []) (call2 "EQUAL" (call2 "REMAINDER" (variable "X") (call1 "ADD1" (variable "B"))) (variable "X")) ((codes "B", b) ∷ (codes "X", x) ∷ []) (grown remainder_of_less_clause remainder_of_less h) (d1, (d2, tt)) ((equal_symbol h, ((remainder_symbol h, ox), (add1_symbol h, ob))), ox)

-- (NOT (EQUAL (REMAINDER C (ADD1 B)) D)), (NOT (EQUAL (DIFFERENCE A (ADD1 B)) C)), (NOT (EQUAL (LESSP A (ADD1 B)) F)), (EQUAL (REMAINDER A (ADD1 B)) D)
abbrev remainder_step_log : List LogLine
remainder_step_log =
    Ruled (AxiomRow (codes "IF") 1 0)
    ∷ Ruled (AxiomRow (codes "FALSE") 1 0)
    ∷ Ruled (Reflexive (variable "D"))
    ∷ Ruled (Instance 1 ((codes "X", (variable "B")) ∷ []))
    ∷ Ruled (AxiomRow (codes "REMAINDER") 1 0)
    ∷ Ruled (Instance 6 ((codes "X", (variable "A")) ∷ (codes "Y", (call1 "ADD1" (variable "B"))) ∷ []))
    ∷ Ruled (Instance 2 ((codes "X", (call0 "FALSE")) ∷ (codes "Y", (call1 "FIX" (variable "A"))) ∷ (codes "Z", (variable "D")) ∷ []))
    ∷ Ruled (Cut 8 3 (call0 "FALSE"))
    ∷ Ruled (Replace 4 1 (1 ∷ []) (call3 "IF" (call0 "FALSE") (call1 "FIX" (variable "A")) (variable "D")) Backwards)
    ∷ Ruled (Cut 9 10 (call2 "EQUAL" (call3 "IF" (call0 "FALSE") (call1 "FIX" (variable "A")) (variable "D")) (variable "D")))
    ∷ Ruled (Replace 11 1 (1 ∷ 3 ∷ []) (call3 "IF" (call0 "FALSE") (call1 "FIX" (variable "A")) (variable "D")) Backwards)
    ∷ Ruled (Cut 9 12 (call2 "EQUAL" (call3 "IF" (call0 "FALSE") (call1 "FIX" (variable "A")) (variable "D")) (variable "D")))
    ∷ Ruled (Replace 13 1 (1 ∷ 1 ∷ []) (call1 "ZEROP" (call1 "ADD1" (variable "B"))) Backwards)
    ∷ Ruled (Cut 5 14 (call2 "EQUAL" (call1 "ZEROP" (call1 "ADD1" (variable "B"))) (call0 "FALSE")))
    ∷ Ruled (Replace 15 1 (1 ∷ 3 ∷ 3 ∷ []) (call2 "REMAINDER" (variable "C") (call1 "ADD1" (variable "B"))) Backwards)
    ∷ Ruled (Replace 16 1 (1 ∷ 3 ∷ 3 ∷ 1 ∷ []) (call2 "DIFFERENCE" (variable "A") (call1 "ADD1" (variable "B"))) Backwards)
    ∷ Ruled (Replace 17 1 (1 ∷ 3 ∷ 1 ∷ []) (call2 "LESSP" (variable "A") (call1 "ADD1" (variable "B"))) Backwards)
    ∷ Ruled (Replace 18 1 (1 ∷ []) (call2 "REMAINDER" (variable "A") (call1 "ADD1" (variable "B"))) Backwards)
    ∷ Ruled (Cut 7 19 (call2 "EQUAL" (call2 "REMAINDER" (variable "A") (call1 "ADD1" (variable "B"))) (call3 "IF" (call1 "ZEROP" (call1 "ADD1" (variable "B"))) (call1 "FIX" (variable "A")) (call3 "IF" (call2 "LESSP" (variable "A") (call1 "ADD1" (variable "B"))) (call1 "FIX" (variable "A")) (call2 "REMAINDER" (call2 "DIFFERENCE" (variable "A") (call1 "ADD1" (variable "B"))) (call1 "ADD1" (variable "B")))))))
    ∷ Ruled (Taut ((call1 "NOT" (call2 "EQUAL" (call2 "REMAINDER" (variable "A") (call1 "ADD1" (variable "B"))) (variable "D"))) ∷ (call2 "EQUAL" (call2 "REMAINDER" (variable "A") (call1 "ADD1" (variable "B"))) (variable "D")) ∷ []))
    ∷ Ruled (Cut 20 21 (call2 "EQUAL" (call2 "REMAINDER" (variable "A") (call1 "ADD1" (variable "B"))) (variable "D"))) ∷ []

pub remainder_step : Derivable [] (clause remainder_step_clause)
unfolding symbols_of number_of
remainder_step = everywhere (add1_is_not_zero_clause ∷ []) remainder_step_log remainder_step_clause refl (add1_is_not_zero, tt) refl

pub remainder_step_at : (h : History) (a b c d : Term) → IsTerm (symbols_of h) a → IsTerm (symbols_of h) b → IsTerm (symbols_of h) c → IsTerm (symbols_of h) d → Derivable h (clause ((call2 "EQUAL" (call2 "LESSP" a (call1 "ADD1" b)) (call0 "FALSE")) ∷ [])) → Derivable h (clause ((call2 "EQUAL" (call2 "DIFFERENCE" a (call1 "ADD1" b)) c) ∷ [])) → Derivable h (clause ((call2 "EQUAL" (call2 "REMAINDER" c (call1 "ADD1" b)) d) ∷ [])) → Derivable h (clause ((call2 "EQUAL" (call2 "REMAINDER" a (call1 "ADD1" b)) d) ∷ []))
remainder_step_at h a b c d oa ob oc od d1 d2 d3 =
    by_law h ((call2 "EQUAL" (call2 "REMAINDER" (variable "C") (call1 "ADD1" (variable "B"))) (variable "D")) ∷ (call2 "EQUAL" (call2 "DIFFERENCE" (variable "A") (call1 "ADD1" (variable "B"))) (variable "C")) ∷ (call2 "EQUAL" (call2 "LESSP" (variable "A") (call1 "ADD1" (variable "B"))) (call0 "FALSE")) ∷ []) (call2 "EQUAL" (call2 "REMAINDER" (variable "A") (call1 "ADD1" (variable "B"))) (variable "D")) ((codes "A", a) ∷ (codes "B", b) ∷ (codes "C", c) ∷ (codes "D", d) ∷ []) (grown remainder_step_clause remainder_step h) (d3, (d2, (d1, tt))) ((equal_symbol h, ((remainder_symbol h, oa), (add1_symbol h, ob))), od)

pub laws_of_quotients_hold : AreDerivable laws_of_quotients
laws_of_quotients_hold h = (grown difference_from_zero_value_clause difference_from_zero_value h, (grown difference_with_zero_value_clause difference_with_zero_value h, (grown difference_step_clause difference_step h, (grown quotient_by_zero_clause quotient_by_zero h, (grown quotient_of_less_clause quotient_of_less h, (grown quotient_step_clause quotient_step h, (grown remainder_by_zero_clause remainder_by_zero h, (grown remainder_of_less_clause remainder_of_less h, (grown remainder_step_clause remainder_step h, tt)))))))))
