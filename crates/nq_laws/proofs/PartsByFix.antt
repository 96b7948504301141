-- Laws of functions of one argument, by its FIX in the ground history, each by a log over earlier ones, and at terms of any history.
use Rattle.std.proofs.Common.{List, [], ◌∷◌, refl}
use Rattle.std.specs.Prelude.{codes}
use Rattle.nq_logic.specs.Terms.{Term, IsTerm}
use Rattle.nq_logic.specs.Words.{variable, call0, call1, call2, call3}
use Rattle.nq_logic.specs.Histories.{History}
use Rattle.nq_logic.specs.Ground.{symbols_of}
use Rattle.nq_logic.specs.Numerals.{number_of}
use Rattle.nq_logic.specs.Formulas.{clause}
use Rattle.nq_logic.specs.Derivations.{Derivable}
use Rattle.nq_proof.specs.Rules.{Taut, AxiomRow, Cut, Instance, Reflexive, Replace, Forwards, Backwards}
use Rattle.nq_proof.specs.Logs.{LogLine, Ruled}
use Rattle.nq_proof.proofs.SoundLogs.{everywhere, grown}
use Rattle.nq_proof.proofs.ByLaw.{by_law}
use Rattle.nq_laws.specs.Laws.{AreDerivable}
use Rattle.nq_logic.proofs.Symbols.{equal_symbol, false_symbol, fix_symbol, identity_symbol, sub1_symbol, true_symbol, zero_symbol, zerop_symbol}
use Rattle.nq_laws.specs.PartsByFix.{sub1_with_zero_fix_clause, sub1_with_positive_fix_clause, zero_test_with_zero_fix_clause, zero_test_with_positive_fix_clause, fix_where_no_number_clause, same_after_identity_clause, laws_of_parts_by_fix}
use Rattle.nq_laws.specs.Zero.{fix_of_other_clause}
use Rattle.nq_laws.proofs.Zero.{fix_of_other}
use Rattle.nq_laws.specs.Distinct.{zero_is_no_add1_clause}
use Rattle.nq_laws.proofs.Distinct.{zero_is_no_add1}
use Rattle.nq_laws.specs.Parts.{sub1_of_zero_numeral_clause, sub1_of_add1_clause}
use Rattle.nq_laws.proofs.Parts.{sub1_of_zero_numeral, sub1_of_add1}

-- (NOT (EQUAL (FIX X) 0)), (EQUAL (SUB1 X) 0)
abbrev sub1_with_zero_fix_log : List LogLine
sub1_with_zero_fix_log =
    Ruled (AxiomRow (codes "ADD1") 8 1)
    ∷ Ruled (AxiomRow (codes "FIX") 1 0)
    ∷ Ruled (AxiomRow (codes "IF") 2 0)
    ∷ Ruled (AxiomRow (codes "IF") 1 0)
    ∷ Ruled (Reflexive (call0 "ZERO"))
    ∷ Ruled (Instance 4 ((codes "X", (call1 "NUMBERP" (variable "X"))) ∷ (codes "Y", (variable "X")) ∷ (codes "Z", (call0 "ZERO")) ∷ []))
    ∷ Ruled (Instance 5 ((codes "X", (call1 "NUMBERP" (variable "X"))) ∷ (codes "Y", (variable "X")) ∷ (codes "Z", (call0 "ZERO")) ∷ []))
    ∷ Ruled (Replace 6 1 (1 ∷ []) (call1 "SUB1" (call0 "ZERO")) Backwards)
    ∷ Ruled (Cut 1 9 (call2 "EQUAL" (call1 "SUB1" (call0 "ZERO")) (call0 "ZERO")))
    ∷ Ruled (Replace 10 1 (1 ∷ 1 ∷ []) (variable "X") Backwards)
    ∷ Ruled (Taut ((call1 "NOT" (call2 "EQUAL" (call1 "SUB1" (variable "X")) (call0 "ZERO"))) ∷ (call2 "EQUAL" (call1 "SUB1" (variable "X")) (call0 "ZERO")) ∷ []))
    ∷ Ruled (Replace 11 2 (1 ∷ 1 ∷ []) (call3 "IF" (call1 "NUMBERP" (variable "X")) (variable "X") (call0 "ZERO")) Backwards)
    ∷ Ruled (Cut 7 13 (call2 "EQUAL" (call3 "IF" (call1 "NUMBERP" (variable "X")) (variable "X") (call0 "ZERO")) (variable "X")))
    ∷ Ruled (Taut ((call2 "EQUAL" (call0 "ZERO") (call0 "ZERO")) ∷ (call1 "NOT" (call2 "EQUAL" (call0 "ZERO") (call0 "ZERO"))) ∷ []))
    ∷ Ruled (Replace 15 1 (1 ∷ []) (call1 "SUB1" (variable "X")) Backwards)
    ∷ Ruled (Cut 2 16 (call2 "EQUAL" (call1 "SUB1" (variable "X")) (call0 "ZERO")))
    ∷ Ruled (Replace 17 3 (1 ∷ 1 ∷ []) (call3 "IF" (call1 "NUMBERP" (variable "X")) (variable "X") (call0 "ZERO")) Backwards)
    ∷ Ruled (Cut 8 18 (call2 "EQUAL" (call3 "IF" (call1 "NUMBERP" (variable "X")) (variable "X") (call0 "ZERO")) (call0 "ZERO")))
    ∷ Ruled (Cut 19 14 (call1 "NUMBERP" (variable "X")))
    ∷ Ruled (Replace 20 2 (1 ∷ 1 ∷ []) (call1 "FIX" (variable "X")) Backwards)
    ∷ Ruled (Cut 3 21 (call2 "EQUAL" (call1 "FIX" (variable "X")) (call3 "IF" (call1 "NUMBERP" (variable "X")) (variable "X") (call0 "ZERO"))))
    ∷ Ruled (Cut 22 12 (call2 "EQUAL" (call1 "SUB1" (variable "X")) (call0 "ZERO"))) ∷ []

pub sub1_with_zero_fix : Derivable [] (clause sub1_with_zero_fix_clause)
unfolding symbols_of number_of
sub1_with_zero_fix = everywhere (sub1_of_zero_numeral_clause ∷ []) sub1_with_zero_fix_log sub1_with_zero_fix_clause refl (sub1_of_zero_numeral, tt) refl

pub sub1_with_zero_fix_at : (h : History) (x : Term) → IsTerm (symbols_of h) x → Derivable h (clause ((call2 "EQUAL" (call1 "FIX" x) (call0 "ZERO")) ∷ [])) → Derivable h (clause ((call2 "EQUAL" (call1 "SUB1" x) (call0 "ZERO")) ∷ []))
sub1_with_zero_fix_at h x ox d1 =
    by_law h ((call2 "EQUAL" (call1 "FIX" (variable "X")) (call0 "ZERO")) ∷ []) (call2 "EQUAL" (call1 "SUB1" (variable "X")) (call0 "ZERO")) ((codes "X", x) ∷ []) (grown sub1_with_zero_fix_clause sub1_with_zero_fix h) (d1, tt) ((equal_symbol h, (sub1_symbol h, ox)), (zero_symbol h))

-- (NOT (EQUAL (FIX X) (ADD1 A))), (NOT (NUMBERP A)), (EQUAL (SUB1 X) A)
abbrev sub1_with_positive_fix_log : List LogLine
sub1_with_positive_fix_log =
    Ruled (AxiomRow (codes "FIX") 1 0)
    ∷ Ruled (AxiomRow (codes "IF") 2 0)
    ∷ Ruled (AxiomRow (codes "IF") 1 0)
    ∷ Ruled (Instance 4 ((codes "X", (call1 "NUMBERP" (variable "X"))) ∷ (codes "Y", (variable "X")) ∷ (codes "Z", (call0 "ZERO")) ∷ []))
    ∷ Ruled (Instance 5 ((codes "X", (call1 "NUMBERP" (variable "X"))) ∷ (codes "Y", (variable "X")) ∷ (codes "Z", (call0 "ZERO")) ∷ []))
    ∷ Ruled (Instance 1 ((codes "X1", (variable "A")) ∷ []))
    ∷ Ruled (Reflexive (variable "A"))
    ∷ Ruled (Replace 9 1 (1 ∷ []) (call1 "SUB1" (call1 "ADD1" (variable "A"))) Backwards)
    ∷ Ruled (Cut 8 10 (call2 "EQUAL" (call1 "SUB1" (call1 "ADD1" (variable "A"))) (variable "A")))
    ∷ Ruled (Replace 11 2 (1 ∷ 1 ∷ []) (variable "X") Backwards)
    ∷ Ruled (Replace 12 3 (1 ∷ 1 ∷ []) (call3 "IF" (call1 "NUMBERP" (variable "X")) (variable "X") (call0 "ZERO")) Backwards)
    ∷ Ruled (Cut 6 13 (call2 "EQUAL" (call3 "IF" (call1 "NUMBERP" (variable "X")) (variable "X") (call0 "ZERO")) (variable "X")))
    ∷ Ruled (Instance 2 ((codes "X1", (variable "A")) ∷ []))
    ∷ Ruled (Replace 15 1 (1 ∷ 1 ∷ []) (call3 "IF" (call1 "NUMBERP" (variable "X")) (variable "X") (call0 "ZERO")) Backwards)
    ∷ Ruled (Cut 7 16 (call2 "EQUAL" (call3 "IF" (call1 "NUMBERP" (variable "X")) (variable "X") (call0 "ZERO")) (call0 "ZERO")))
    ∷ Ruled (Cut 17 14 (call1 "NUMBERP" (variable "X")))
    ∷ Ruled (Replace 18 1 (1 ∷ 1 ∷ []) (call1 "FIX" (variable "X")) Backwards)
    ∷ Ruled (Cut 3 19 (call2 "EQUAL" (call1 "FIX" (variable "X")) (call3 "IF" (call1 "NUMBERP" (variable "X")) (variable "X") (call0 "ZERO")))) ∷ []

pub sub1_with_positive_fix : Derivable [] (clause sub1_with_positive_fix_clause)
unfolding symbols_of number_of
sub1_with_positive_fix = everywhere (sub1_of_add1_clause ∷ zero_is_no_add1_clause ∷ []) sub1_with_positive_fix_log sub1_with_positive_fix_clause refl (sub1_of_add1, (zero_is_no_add1, tt)) refl

pub sub1_with_positive_fix_at : (h : History) (a x : Term) → IsTerm (symbols_of h) a → IsTerm (symbols_of h) x → Derivable h (clause ((call1 "NUMBERP" a) ∷ [])) → Derivable h (clause ((call2 "EQUAL" (call1 "FIX" x) (call1 "ADD1" a)) ∷ [])) → Derivable h (clause ((call2 "EQUAL" (call1 "SUB1" x) a) ∷ []))
sub1_with_positive_fix_at h a x oa ox d1 d2 =
    by_law h ((call2 "EQUAL" (call1 "FIX" (variable "X")) (call1 "ADD1" (variable "A"))) ∷ (call1 "NUMBERP" (variable "A")) ∷ []) (call2 "EQUAL" (call1 "SUB1" (variable "X")) (variable "A")) ((codes "A", a) ∷ (codes "X", x) ∷ []) (grown sub1_with_positive_fix_clause sub1_with_positive_fix h) (d2, (d1, tt)) ((equal_symbol h, (sub1_symbol h, ox)), oa)

-- (NOT (EQUAL (FIX X) 0)), (EQUAL (ZEROP X) T)
abbrev zero_test_with_zero_fix_log : List LogLine
zero_test_with_zero_fix_log =
    Ruled (AxiomRow (codes "FIX") 1 0)
    ∷ Ruled (AxiomRow (codes "IF") 2 0)
    ∷ Ruled (AxiomRow (codes "IF") 1 0)
    ∷ Ruled (AxiomRow (codes "ZEROP") 1 0)
    ∷ Ruled (Instance 2 ((codes "X", (call1 "NUMBERP" (call0 "ZERO"))) ∷ (codes "Y", (call0 "FALSE")) ∷ (codes "Z", (call0 "TRUE")) ∷ []))
    ∷ Ruled (Instance 2 ((codes "X", (call2 "EQUAL" (call0 "ZERO") (call0 "ZERO"))) ∷ (codes "Y", (call0 "TRUE")) ∷ (codes "Z", (call0 "FALSE")) ∷ []))
    ∷ Ruled (Reflexive (call0 "ZERO"))
    ∷ Ruled (Instance 3 ((codes "X", (call1 "NUMBERP" (variable "X"))) ∷ (codes "Y", (call0 "FALSE")) ∷ (codes "Z", (call0 "TRUE")) ∷ []))
    ∷ Ruled (Instance 3 ((codes "X", (call2 "EQUAL" (variable "X") (call0 "ZERO"))) ∷ (codes "Y", (call0 "TRUE")) ∷ (codes "Z", (call0 "TRUE")) ∷ []))
    ∷ Ruled (Instance 2 ((codes "X", (call1 "NUMBERP" (variable "X"))) ∷ (codes "Y", (variable "X")) ∷ (codes "Z", (call0 "ZERO")) ∷ []))
    ∷ Ruled (Instance 3 ((codes "X", (call1 "NUMBERP" (variable "X"))) ∷ (codes "Y", (variable "X")) ∷ (codes "Z", (call0 "ZERO")) ∷ []))
    ∷ Ruled (Reflexive (call0 "TRUE"))
    ∷ Ruled (Replace 12 1 (1 ∷ []) (call3 "IF" (call2 "EQUAL" (call0 "ZERO") (call0 "ZERO")) (call0 "TRUE") (call0 "FALSE")) Backwards)
    ∷ Ruled (Cut 6 13 (call2 "EQUAL" (call3 "IF" (call2 "EQUAL" (call0 "ZERO") (call0 "ZERO")) (call0 "TRUE") (call0 "FALSE")) (call0 "TRUE")))
    ∷ Ruled (Cut 7 14 (call2 "EQUAL" (call0 "ZERO") (call0 "ZERO")))
    ∷ Ruled (Replace 15 1 (1 ∷ 3 ∷ []) (call3 "IF" (call1 "NUMBERP" (call0 "ZERO")) (call0 "FALSE") (call0 "TRUE")) Backwards)
    ∷ Ruled (Cut 5 16 (call2 "EQUAL" (call3 "IF" (call1 "NUMBERP" (call0 "ZERO")) (call0 "FALSE") (call0 "TRUE")) (call0 "FALSE")))
    ∷ Ruled (Replace 17 1 (1 ∷ 1 ∷ []) (variable "X") Backwards)
    ∷ Ruled (Replace 18 2 (1 ∷ 3 ∷ 1 ∷ 1 ∷ []) (variable "X") Backwards)
    ∷ Ruled (Replace 19 2 (1 ∷ 1 ∷ 1 ∷ []) (variable "X") Backwards)
    ∷ Ruled (Replace 20 3 (1 ∷ 1 ∷ []) (call3 "IF" (call1 "NUMBERP" (variable "X")) (variable "X") (call0 "ZERO")) Backwards)
    ∷ Ruled (Cut 10 21 (call2 "EQUAL" (call3 "IF" (call1 "NUMBERP" (variable "X")) (variable "X") (call0 "ZERO")) (variable "X")))
    ∷ Ruled (Instance 2 ((codes "X", (call2 "EQUAL" (call0 "ZERO") (call0 "ZERO"))) ∷ (codes "Y", (call0 "TRUE")) ∷ (codes "Z", (call0 "TRUE")) ∷ []))
    ∷ Ruled (Replace 12 1 (1 ∷ []) (call3 "IF" (call2 "EQUAL" (call0 "ZERO") (call0 "ZERO")) (call0 "TRUE") (call0 "TRUE")) Backwards)
    ∷ Ruled (Cut 23 24 (call2 "EQUAL" (call3 "IF" (call2 "EQUAL" (call0 "ZERO") (call0 "ZERO")) (call0 "TRUE") (call0 "TRUE")) (call0 "TRUE")))
    ∷ Ruled (Replace 25 2 (1 ∷ 1 ∷ 1 ∷ []) (variable "X") Backwards)
    ∷ Ruled (Replace 12 1 (1 ∷ []) (call3 "IF" (call2 "EQUAL" (variable "X") (call0 "ZERO")) (call0 "TRUE") (call0 "TRUE")) Backwards)
    ∷ Ruled (Cut 9 27 (call2 "EQUAL" (call3 "IF" (call2 "EQUAL" (variable "X") (call0 "ZERO")) (call0 "TRUE") (call0 "TRUE")) (call0 "TRUE")))
    ∷ Ruled (Cut 28 26 (call2 "EQUAL" (variable "X") (call0 "ZERO")))
    ∷ Ruled (Replace 29 1 (1 ∷ 3 ∷ []) (call3 "IF" (call1 "NUMBERP" (variable "X")) (call0 "FALSE") (call0 "TRUE")) Backwards)
    ∷ Ruled (Cut 8 30 (call2 "EQUAL" (call3 "IF" (call1 "NUMBERP" (variable "X")) (call0 "FALSE") (call0 "TRUE")) (call0 "TRUE")))
    ∷ Ruled (Replace 31 3 (1 ∷ 1 ∷ []) (call3 "IF" (call1 "NUMBERP" (variable "X")) (variable "X") (call0 "ZERO")) Backwards)
    ∷ Ruled (Cut 11 32 (call2 "EQUAL" (call3 "IF" (call1 "NUMBERP" (variable "X")) (variable "X") (call0 "ZERO")) (call0 "ZERO")))
    ∷ Ruled (Cut 33 22 (call1 "NUMBERP" (variable "X")))
    ∷ Ruled (Replace 34 1 (1 ∷ []) (call1 "ZEROP" (variable "X")) Backwards)
    ∷ Ruled (Cut 4 35 (call2 "EQUAL" (call1 "ZEROP" (variable "X")) (call3 "IF" (call2 "EQUAL" (variable "X") (call0 "ZERO")) (call0 "TRUE") (call3 "IF" (call1 "NUMBERP" (variable "X")) (call0 "FALSE") (call0 "TRUE")))))
    ∷ Ruled (Replace 36 2 (1 ∷ 1 ∷ []) (call1 "FIX" (variable "X")) Backwards)
    ∷ Ruled (Cut 1 37 (call2 "EQUAL" (call1 "FIX" (variable "X")) (call3 "IF" (call1 "NUMBERP" (variable "X")) (variable "X") (call0 "ZERO"))))
    ∷ Ruled (Taut ((call1 "NOT" (call2 "EQUAL" (call1 "ZEROP" (variable "X")) (call0 "TRUE"))) ∷ (call2 "EQUAL" (call1 "ZEROP" (variable "X")) (call0 "TRUE")) ∷ []))
    ∷ Ruled (Cut 38 39 (call2 "EQUAL" (call1 "ZEROP" (variable "X")) (call0 "TRUE"))) ∷ []

pub zero_test_with_zero_fix : Derivable [] (clause zero_test_with_zero_fix_clause)
unfolding symbols_of number_of
zero_test_with_zero_fix = everywhere [] zero_test_with_zero_fix_log zero_test_with_zero_fix_clause refl tt refl

pub zero_test_with_zero_fix_at : (h : History) (x : Term) → IsTerm (symbols_of h) x → Derivable h (clause ((call2 "EQUAL" (call1 "FIX" x) (call0 "ZERO")) ∷ [])) → Derivable h (clause ((call2 "EQUAL" (call1 "ZEROP" x) (call0 "TRUE")) ∷ []))
zero_test_with_zero_fix_at h x ox d1 =
    by_law h ((call2 "EQUAL" (call1 "FIX" (variable "X")) (call0 "ZERO")) ∷ []) (call2 "EQUAL" (call1 "ZEROP" (variable "X")) (call0 "TRUE")) ((codes "X", x) ∷ []) (grown zero_test_with_zero_fix_clause zero_test_with_zero_fix h) (d1, tt) ((equal_symbol h, (zerop_symbol h, ox)), (true_symbol h))

-- (NOT (EQUAL (FIX X) (ADD1 A))), (EQUAL (ZEROP X) F)
abbrev zero_test_with_positive_fix_log : List LogLine
zero_test_with_positive_fix_log =
    Ruled (AxiomRow (codes "ADD1") 4 0)
    ∷ Ruled (AxiomRow (codes "FIX") 1 0)
    ∷ Ruled (AxiomRow (codes "IF") 2 0)
    ∷ Ruled (AxiomRow (codes "IF") 1 0)
    ∷ Ruled (AxiomRow (codes "ZEROP") 1 0)
    ∷ Ruled (Reflexive (call0 "FALSE"))
    ∷ Ruled (Instance 4 ((codes "X", (call1 "NUMBERP" (variable "X"))) ∷ (codes "Y", (variable "X")) ∷ (codes "Z", (call0 "ZERO")) ∷ []))
    ∷ Ruled (Instance 5 ((codes "X", (call1 "NUMBERP" (variable "X"))) ∷ (codes "Y", (variable "X")) ∷ (codes "Z", (call0 "ZERO")) ∷ []))
    ∷ Ruled (Instance 1 ((codes "X1", (variable "A")) ∷ []))
    ∷ Ruled (Replace 10 1 (1 ∷ 1 ∷ []) (call3 "IF" (call1 "NUMBERP" (variable "X")) (variable "X") (call0 "ZERO")) Backwards)
    ∷ Ruled (Cut 9 11 (call2 "EQUAL" (call3 "IF" (call1 "NUMBERP" (variable "X")) (variable "X") (call0 "ZERO")) (call0 "ZERO")))
    ∷ Ruled (Instance 4 ((codes "X", (call1 "NUMBERP" (call1 "ADD1" (variable "A")))) ∷ (codes "Y", (call0 "FALSE")) ∷ (codes "Z", (call0 "TRUE")) ∷ []))
    ∷ Ruled (Instance 2 ((codes "X1", (variable "A")) ∷ []))
    ∷ Ruled (Instance 5 ((codes "X", (call2 "EQUAL" (call1 "ADD1" (variable "A")) (call0 "ZERO"))) ∷ (codes "Y", (call0 "TRUE")) ∷ (codes "Z", (call0 "FALSE")) ∷ []))
    ∷ Ruled (Replace 7 1 (1 ∷ []) (call3 "IF" (call2 "EQUAL" (call1 "ADD1" (variable "A")) (call0 "ZERO")) (call0 "TRUE") (call0 "FALSE")) Backwards)
    ∷ Ruled (Cut 15 16 (call2 "EQUAL" (call3 "IF" (call2 "EQUAL" (call1 "ADD1" (variable "A")) (call0 "ZERO")) (call0 "TRUE") (call0 "FALSE")) (call0 "FALSE")))
    ∷ Ruled (Cut 17 14 (call2 "EQUAL" (call1 "ADD1" (variable "A")) (call0 "ZERO")))
    ∷ Ruled (Replace 18 1 (1 ∷ 3 ∷ []) (call3 "IF" (call1 "NUMBERP" (call1 "ADD1" (variable "A"))) (call0 "FALSE") (call0 "TRUE")) Backwards)
    ∷ Ruled (Cut 13 19 (call2 "EQUAL" (call3 "IF" (call1 "NUMBERP" (call1 "ADD1" (variable "A"))) (call0 "FALSE") (call0 "TRUE")) (call0 "FALSE")))
    ∷ Ruled (Replace 20 1 (1 ∷ 1 ∷ []) (variable "X") Backwards)
    ∷ Ruled (Replace 21 2 (1 ∷ 3 ∷ 1 ∷ 1 ∷ []) (variable "X") Backwards)
    ∷ Ruled (Replace 22 2 (1 ∷ 1 ∷ 1 ∷ []) (variable "X") Backwards)
    ∷ Ruled (Replace 23 3 (1 ∷ 1 ∷ []) (call3 "IF" (call1 "NUMBERP" (variable "X")) (variable "X") (call0 "ZERO")) Backwards)
    ∷ Ruled (Cut 8 24 (call2 "EQUAL" (call3 "IF" (call1 "NUMBERP" (variable "X")) (variable "X") (call0 "ZERO")) (variable "X")))
    ∷ Ruled (Cut 12 25 (call1 "NUMBERP" (variable "X")))
    ∷ Ruled (Replace 26 2 (1 ∷ []) (call1 "ZEROP" (variable "X")) Backwards)
    ∷ Ruled (Cut 6 27 (call2 "EQUAL" (call1 "ZEROP" (variable "X")) (call3 "IF" (call2 "EQUAL" (variable "X") (call0 "ZERO")) (call0 "TRUE") (call3 "IF" (call1 "NUMBERP" (variable "X")) (call0 "FALSE") (call0 "TRUE")))))
    ∷ Ruled (Replace 28 1 (1 ∷ 1 ∷ []) (call1 "FIX" (variable "X")) Backwards)
    ∷ Ruled (Cut 3 29 (call2 "EQUAL" (call1 "FIX" (variable "X")) (call3 "IF" (call1 "NUMBERP" (variable "X")) (variable "X") (call0 "ZERO")))) ∷ []

pub zero_test_with_positive_fix : Derivable [] (clause zero_test_with_positive_fix_clause)
unfolding symbols_of number_of
zero_test_with_positive_fix = everywhere (zero_is_no_add1_clause ∷ []) zero_test_with_positive_fix_log zero_test_with_positive_fix_clause refl (zero_is_no_add1, tt) refl

pub zero_test_with_positive_fix_at : (h : History) (a x : Term) → IsTerm (symbols_of h) a → IsTerm (symbols_of h) x → Derivable h (clause ((call2 "EQUAL" (call1 "FIX" x) (call1 "ADD1" a)) ∷ [])) → Derivable h (clause ((call2 "EQUAL" (call1 "ZEROP" x) (call0 "FALSE")) ∷ []))
zero_test_with_positive_fix_at h a x oa ox d1 =
    by_law h ((call2 "EQUAL" (call1 "FIX" (variable "X")) (call1 "ADD1" (variable "A"))) ∷ []) (call2 "EQUAL" (call1 "ZEROP" (variable "X")) (call0 "FALSE")) ((codes "A", a) ∷ (codes "X", x) ∷ []) (grown zero_test_with_positive_fix_clause zero_test_with_positive_fix h) (d1, tt) ((equal_symbol h, (zerop_symbol h, ox)), (false_symbol h))

-- (NOT (EQUAL (NUMBERP X) F)), (EQUAL (FIX X) 0)
abbrev fix_where_no_number_log : List LogLine
fix_where_no_number_log =
    Ruled (AxiomRow (codes "FALSE") 1 0)
    ∷ Ruled (Taut ((call1 "NOT" (call2 "EQUAL" (call1 "FIX" (variable "X")) (call0 "ZERO"))) ∷ (call2 "EQUAL" (call1 "FIX" (variable "X")) (call0 "ZERO")) ∷ []))
    ∷ Ruled (Taut ((call1 "NUMBERP" (variable "X")) ∷ (call1 "NOT" (call1 "NUMBERP" (variable "X"))) ∷ []))
    ∷ Ruled (Replace 4 1 [] (call0 "FALSE") Forwards)
    ∷ Ruled (Cut 5 2 (call0 "FALSE"))
    ∷ Ruled (Cut 1 6 (call1 "NUMBERP" (variable "X")))
    ∷ Ruled (Cut 7 3 (call2 "EQUAL" (call1 "FIX" (variable "X")) (call0 "ZERO"))) ∷ []

pub fix_where_no_number : Derivable [] (clause fix_where_no_number_clause)
unfolding symbols_of number_of
fix_where_no_number = everywhere (fix_of_other_clause ∷ []) fix_where_no_number_log fix_where_no_number_clause refl (fix_of_other, tt) refl

pub fix_where_no_number_at : (h : History) (x : Term) → IsTerm (symbols_of h) x → Derivable h (clause ((call2 "EQUAL" (call1 "NUMBERP" x) (call0 "FALSE")) ∷ [])) → Derivable h (clause ((call2 "EQUAL" (call1 "FIX" x) (call0 "ZERO")) ∷ []))
fix_where_no_number_at h x ox d1 =
    by_law h ((call2 "EQUAL" (call1 "NUMBERP" (variable "X")) (call0 "FALSE")) ∷ []) (call2 "EQUAL" (call1 "FIX" (variable "X")) (call0 "ZERO")) ((codes "X", x) ∷ []) (grown fix_where_no_number_clause fix_where_no_number h) (d1, tt) ((equal_symbol h, (fix_symbol h, ox)), (zero_symbol h))

-- (EQUAL (IDENTITY X) X)
abbrev same_after_identity_log : List LogLine
same_after_identity_log =
    Ruled (AxiomRow (codes "IDENTITY") 1 0) ∷ []

pub same_after_identity : Derivable [] (clause same_after_identity_clause)
unfolding symbols_of number_of
same_after_identity = everywhere [] same_after_identity_log same_after_identity_clause refl tt refl

pub same_after_identity_at : (h : History) (x : Term) → IsTerm (symbols_of h) x → Derivable h (clause ((call2 "EQUAL" (call1 "IDENTITY" x) x) ∷ []))
same_after_identity_at h x ox =
    by_law h [] (call2 "EQUAL" (call1 "IDENTITY" (variable "X")) (variable "X")) ((codes "X", x) ∷ []) (grown same_after_identity_clause same_after_identity h) tt ((equal_symbol h, (identity_symbol h, ox)), ox)

pub laws_of_parts_by_fix_hold : AreDerivable laws_of_parts_by_fix
laws_of_parts_by_fix_hold h = (grown sub1_with_zero_fix_clause sub1_with_zero_fix h, (grown sub1_with_positive_fix_clause sub1_with_positive_fix h, (grown zero_test_with_zero_fix_clause zero_test_with_zero_fix h, (grown zero_test_with_positive_fix_clause zero_test_with_positive_fix h, (grown fix_where_no_number_clause fix_where_no_number h, (grown same_after_identity_clause same_after_identity h, tt))))))
