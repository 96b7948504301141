-- Laws of 0, ADD1, SUB1, NUMBERP, ZEROP and FIX in the ground history, each by a log over earlier ones, and at terms of any history.
use Rattle.std.proofs.Common.{List, [], ◌∷◌, refl}
use Rattle.std.specs.Prelude.{codes}
use Rattle.nq_logic.specs.Terms.{Term, IsTerm}
use Rattle.nq_logic.specs.Words.{variable, call0, call1, call2, call3}
use Rattle.nq_logic.specs.Histories.{History}
use Rattle.nq_logic.specs.Ground.{symbols_of}
use Rattle.nq_logic.specs.Numerals.{number_of}
use Rattle.nq_logic.specs.Formulas.{clause}
use Rattle.nq_logic.specs.Derivations.{Derivable}
use Rattle.nq_proof.specs.Rules.{Taut, AxiomRow, Cut, Instance, Reflexive, Replace, Forwards, Backwards}
use Rattle.nq_proof.specs.Logs.{LogLine, Ruled}
use Rattle.nq_proof.proofs.SoundLogs.{everywhere, grown}
use Rattle.nq_proof.proofs.ByLaw.{by_law}
use Rattle.nq_laws.specs.Laws.{AreDerivable}
use Rattle.nq_logic.proofs.Symbols.{add1_symbol, equal_symbol, false_symbol, fix_symbol, numberp_symbol, sub1_symbol, zero_symbol, zerop_symbol}
use Rattle.nq_laws.specs.Zero.{add1_is_number_clause, zero_is_number_clause, zero_is_zero_clause, add1_is_not_zero_clause, not_zero_is_number_clause, zero_or_not_number_clause, positive_is_not_zero_clause, fix_of_number_clause, fix_of_other_clause, fix_of_zero_clause, fix_of_positive_clause, add1_of_sub1_clause, sub1_of_zero_clause, sub1_is_number_clause, fix_of_sub1_clause, laws_of_zero}

-- (NUMBERP (ADD1 X1))
abbrev add1_is_number_log : List LogLine
add1_is_number_log =
    Ruled (AxiomRow (codes "ADD1") 2 0) ∷ []

pub add1_is_number : Derivable [] (clause add1_is_number_clause)
unfolding symbols_of number_of
add1_is_number = everywhere [] add1_is_number_log add1_is_number_clause refl tt refl

pub add1_is_number_at : (h : History) (x1 : Term) → IsTerm (symbols_of h) x1 → Derivable h (clause ((call1 "NUMBERP" (call1 "ADD1" x1)) ∷ []))
add1_is_number_at h x1 ox1 =
    by_law h [] (call1 "NUMBERP" (call1 "ADD1" (variable "X1"))) ((codes "X1", x1) ∷ []) (grown add1_is_number_clause add1_is_number h) tt (numberp_symbol h, (add1_symbol h, ox1))

-- (NUMBERP 0)
abbrev zero_is_number_log : List LogLine
zero_is_number_log =
    Ruled (AxiomRow (codes "ADD1") 3 0) ∷ []

pub zero_is_number : Derivable [] (clause zero_is_number_clause)
unfolding symbols_of number_of
zero_is_number = everywhere [] zero_is_number_log zero_is_number_clause refl tt refl

pub zero_is_number_at : (h : History) → Derivable h (clause zero_is_number_clause)
zero_is_number_at h = grown zero_is_number_clause zero_is_number h

-- (ZEROP 0)
abbrev zero_is_zero_log : List LogLine
zero_is_zero_log =
    Ruled (AxiomRow (codes "IF") 2 0)
    ∷ Ruled (AxiomRow (codes "TRUE") 1 0)
    ∷ Ruled (AxiomRow (codes "ZEROP") 1 0)
    ∷ Ruled (Instance 4 ((codes "X", (call0 "ZERO")) ∷ []))
    ∷ Ruled (Instance 2 ((codes "X", (call1 "NUMBERP" (call0 "ZERO"))) ∷ (codes "Y", (call0 "FALSE")) ∷ (codes "Z", (call0 "TRUE")) ∷ []))
    ∷ Ruled (Instance 2 ((codes "X", (call2 "EQUAL" (call0 "ZERO") (call0 "ZERO"))) ∷ (codes "Y", (call0 "TRUE")) ∷ (codes "Z", (call0 "FALSE")) ∷ []))
    ∷ Ruled (Replace 3 1 [] (call3 "IF" (call2 "EQUAL" (call0 "ZERO") (call0 "ZERO")) (call0 "TRUE") (call0 "FALSE")) Backwards)
    ∷ Ruled (Cut 7 8 (call2 "EQUAL" (call3 "IF" (call2 "EQUAL" (call0 "ZERO") (call0 "ZERO")) (call0 "TRUE") (call0 "FALSE")) (call0 "TRUE")))
    ∷ Ruled (Reflexive (call0 "ZERO"))
    ∷ Ruled (Cut 10 9 (call2 "EQUAL" (call0 "ZERO") (call0 "ZERO")))
    ∷ Ruled (Replace 11 1 (3 ∷ []) (call3 "IF" (call1 "NUMBERP" (call0 "ZERO")) (call0 "FALSE") (call0 "TRUE")) Backwards)
    ∷ Ruled (Cut 6 12 (call2 "EQUAL" (call3 "IF" (call1 "NUMBERP" (call0 "ZERO")) (call0 "FALSE") (call0 "TRUE")) (call0 "FALSE")))
    ∷ Ruled (Cut 1 13 (call1 "NUMBERP" (call0 "ZERO")))
    ∷ Ruled (Replace 14 1 [] (call1 "ZEROP" (call0 "ZERO")) Backwards)
    ∷ Ruled (Cut 5 15 (call2 "EQUAL" (call1 "ZEROP" (call0 "ZERO")) (call3 "IF" (call2 "EQUAL" (call0 "ZERO") (call0 "ZERO")) (call0 "TRUE") (call3 "IF" (call1 "NUMBERP" (call0 "ZERO")) (call0 "FALSE") (call0 "TRUE"))))) ∷ []

pub zero_is_zero : Derivable [] (clause zero_is_zero_clause)
unfolding symbols_of number_of
zero_is_zero = everywhere (zero_is_number_clause ∷ []) zero_is_zero_log zero_is_zero_clause refl (zero_is_number, tt) refl

pub zero_is_zero_at : (h : History) → Derivable h (clause zero_is_zero_clause)
zero_is_zero_at h = grown zero_is_zero_clause zero_is_zero h

-- (EQUAL (ZEROP (ADD1 X)) F)
abbrev add1_is_not_zero_log : List LogLine
add1_is_not_zero_log =
    Ruled (AxiomRow (codes "ADD1") 4 0)
    ∷ Ruled (AxiomRow (codes "IF") 2 0)
    ∷ Ruled (AxiomRow (codes "IF") 1 0)
    ∷ Ruled (AxiomRow (codes "ZEROP") 1 0)
    ∷ Ruled (Instance 5 ((codes "X", (call1 "ADD1" (variable "X"))) ∷ []))
    ∷ Ruled (Instance 3 ((codes "X", (call1 "NUMBERP" (call1 "ADD1" (variable "X")))) ∷ (codes "Y", (call0 "FALSE")) ∷ (codes "Z", (call0 "TRUE")) ∷ []))
    ∷ Ruled (Instance 2 ((codes "X1", (variable "X")) ∷ []))
    ∷ Ruled (Instance 4 ((codes "X", (call2 "EQUAL" (call1 "ADD1" (variable "X")) (call0 "ZERO"))) ∷ (codes "Y", (call0 "TRUE")) ∷ (codes "Z", (call0 "FALSE")) ∷ []))
    ∷ Ruled (Reflexive (call0 "FALSE"))
    ∷ Ruled (Replace 10 1 (1 ∷ []) (call3 "IF" (call2 "EQUAL" (call1 "ADD1" (variable "X")) (call0 "ZERO")) (call0 "TRUE") (call0 "FALSE")) Backwards)
    ∷ Ruled (Cut 9 11 (call2 "EQUAL" (call3 "IF" (call2 "EQUAL" (call1 "ADD1" (variable "X")) (call0 "ZERO")) (call0 "TRUE") (call0 "FALSE")) (call0 "FALSE")))
    ∷ Ruled (Cut 12 8 (call2 "EQUAL" (call1 "ADD1" (variable "X")) (call0 "ZERO")))
    ∷ Ruled (Replace 13 1 (1 ∷ 3 ∷ []) (call3 "IF" (call1 "NUMBERP" (call1 "ADD1" (variable "X"))) (call0 "FALSE") (call0 "TRUE")) Backwards)
    ∷ Ruled (Cut 7 14 (call2 "EQUAL" (call3 "IF" (call1 "NUMBERP" (call1 "ADD1" (variable "X"))) (call0 "FALSE") (call0 "TRUE")) (call0 "FALSE")))
    ∷ Ruled (Instance 1 ((codes "X1", (variable "X")) ∷ []))
    ∷ Ruled (Cut 16 15 (call1 "NUMBERP" (call1 "ADD1" (variable "X"))))
    ∷ Ruled (Replace 17 1 (1 ∷ []) (call1 "ZEROP" (call1 "ADD1" (variable "X"))) Backwards)
    ∷ Ruled (Cut 6 18 (call2 "EQUAL" (call1 "ZEROP" (call1 "ADD1" (variable "X"))) (call3 "IF" (call2 "EQUAL" (call1 "ADD1" (variable "X")) (call0 "ZERO")) (call0 "TRUE") (call3 "IF" (call1 "NUMBERP" (call1 "ADD1" (variable "X"))) (call0 "FALSE") (call0 "TRUE"))))) ∷ []

pub add1_is_not_zero : Derivable [] (clause add1_is_not_zero_clause)
unfolding symbols_of number_of
add1_is_not_zero = everywhere (add1_is_number_clause ∷ []) add1_is_not_zero_log add1_is_not_zero_clause refl (add1_is_number, tt) refl

pub add1_is_not_zero_at : (h : History) (x : Term) → IsTerm (symbols_of h) x → Derivable h (clause ((call2 "EQUAL" (call1 "ZEROP" (call1 "ADD1" x)) (call0 "FALSE")) ∷ []))
add1_is_not_zero_at h x ox =
    by_law h [] (call2 "EQUAL" (call1 "ZEROP" (call1 "ADD1" (variable "X"))) (call0 "FALSE")) ((codes "X", x) ∷ []) (grown add1_is_not_zero_clause add1_is_not_zero h) tt ((equal_symbol h, (zerop_symbol h, (add1_symbol h, ox))), (false_symbol h))

-- (ZEROP X), (NUMBERP X)
abbrev not_zero_is_number_log : List LogLine
not_zero_is_number_log =
    Ruled (AxiomRow (codes "IF") 1 0)
    ∷ Ruled (AxiomRow (codes "TRUE") 1 0)
    ∷ Ruled (AxiomRow (codes "ZEROP") 1 0)
    ∷ Ruled (Instance 2 ((codes "X", (call1 "NUMBERP" (variable "X"))) ∷ (codes "Y", (call0 "FALSE")) ∷ (codes "Z", (call0 "TRUE")) ∷ []))
    ∷ Ruled (Replace 1 1 (1 ∷ []) (variable "X") Backwards)
    ∷ Ruled (Instance 2 ((codes "X", (call2 "EQUAL" (variable "X") (call0 "ZERO"))) ∷ (codes "Y", (call0 "TRUE")) ∷ (codes "Z", (call0 "TRUE")) ∷ []))
    ∷ Ruled (Replace 3 1 [] (call3 "IF" (call2 "EQUAL" (variable "X") (call0 "ZERO")) (call0 "TRUE") (call0 "TRUE")) Backwards)
    ∷ Ruled (Cut 7 8 (call2 "EQUAL" (call3 "IF" (call2 "EQUAL" (variable "X") (call0 "ZERO")) (call0 "TRUE") (call0 "TRUE")) (call0 "TRUE")))
    ∷ Ruled (Cut 9 6 (call2 "EQUAL" (variable "X") (call0 "ZERO")))
    ∷ Ruled (Replace 10 1 (3 ∷ []) (call3 "IF" (call1 "NUMBERP" (variable "X")) (call0 "FALSE") (call0 "TRUE")) Backwards)
    ∷ Ruled (Cut 5 11 (call2 "EQUAL" (call3 "IF" (call1 "NUMBERP" (variable "X")) (call0 "FALSE") (call0 "TRUE")) (call0 "TRUE")))
    ∷ Ruled (Replace 12 2 [] (call1 "ZEROP" (variable "X")) Backwards)
    ∷ Ruled (Cut 4 13 (call2 "EQUAL" (call1 "ZEROP" (variable "X")) (call3 "IF" (call2 "EQUAL" (variable "X") (call0 "ZERO")) (call0 "TRUE") (call3 "IF" (call1 "NUMBERP" (variable "X")) (call0 "FALSE") (call0 "TRUE")))))
    ∷ Ruled (Taut ((call1 "NOT" (call1 "NUMBERP" (variable "X"))) ∷ (call1 "NUMBERP" (variable "X")) ∷ []))
    ∷ Ruled (Cut 14 15 (call1 "NUMBERP" (variable "X"))) ∷ []

pub not_zero_is_number : Derivable [] (clause not_zero_is_number_clause)
unfolding symbols_of number_of
not_zero_is_number = everywhere (zero_is_number_clause ∷ []) not_zero_is_number_log not_zero_is_number_clause refl (zero_is_number, tt) refl

-- (NOT (NUMBERP X)), (NOT (ZEROP X)), (EQUAL X 0)
abbrev zero_or_not_number_log : List LogLine
zero_or_not_number_log =
    Ruled (AxiomRow (codes "IF") 2 0)
    ∷ Ruled (AxiomRow (codes "IF") 1 0)
    ∷ Ruled (AxiomRow (codes "ZEROP") 1 0)
    ∷ Ruled (Instance 1 ((codes "X", (call1 "NUMBERP" (variable "X"))) ∷ (codes "Y", (call0 "FALSE")) ∷ (codes "Z", (call0 "TRUE")) ∷ []))
    ∷ Ruled (Instance 2 ((codes "X", (call2 "EQUAL" (variable "X") (call0 "ZERO"))) ∷ (codes "Y", (call0 "TRUE")) ∷ (codes "Z", (call0 "FALSE")) ∷ []))
    ∷ Ruled (AxiomRow (codes "FALSE") 1 0)
    ∷ Ruled (Replace 6 1 (1 ∷ []) (call3 "IF" (call2 "EQUAL" (variable "X") (call0 "ZERO")) (call0 "TRUE") (call0 "FALSE")) Backwards)
    ∷ Ruled (Cut 5 7 (call2 "EQUAL" (call3 "IF" (call2 "EQUAL" (variable "X") (call0 "ZERO")) (call0 "TRUE") (call0 "FALSE")) (call0 "FALSE")))
    ∷ Ruled (Replace 8 2 (1 ∷ 3 ∷ []) (call3 "IF" (call1 "NUMBERP" (variable "X")) (call0 "FALSE") (call0 "TRUE")) Backwards)
    ∷ Ruled (Cut 4 9 (call2 "EQUAL" (call3 "IF" (call1 "NUMBERP" (variable "X")) (call0 "FALSE") (call0 "TRUE")) (call0 "FALSE")))
    ∷ Ruled (Replace 10 3 (1 ∷ []) (call1 "ZEROP" (variable "X")) Backwards)
    ∷ Ruled (Cut 3 11 (call2 "EQUAL" (call1 "ZEROP" (variable "X")) (call3 "IF" (call2 "EQUAL" (variable "X") (call0 "ZERO")) (call0 "TRUE") (call3 "IF" (call1 "NUMBERP" (variable "X")) (call0 "FALSE") (call0 "TRUE")))))
    ∷ Ruled (Taut ((call1 "NOT" (call2 "EQUAL" (variable "X") (call0 "ZERO"))) ∷ (call2 "EQUAL" (variable "X") (call0 "ZERO")) ∷ []))
    ∷ Ruled (Cut 12 13 (call2 "EQUAL" (variable "X") (call0 "ZERO"))) ∷ []

pub zero_or_not_number : Derivable [] (clause zero_or_not_number_clause)
unfolding symbols_of number_of
zero_or_not_number = everywhere [] zero_or_not_number_log zero_or_not_number_clause refl tt refl

pub zero_or_not_number_at : (h : History) (x : Term) → IsTerm (symbols_of h) x → Derivable h (clause ((call1 "ZEROP" x) ∷ [])) → Derivable h (clause ((call1 "NUMBERP" x) ∷ [])) → Derivable h (clause ((call2 "EQUAL" x (call0 "ZERO")) ∷ []))
zero_or_not_number_at h x ox d1 d2 =
    by_law h ((call1 "NUMBERP" (variable "X")) ∷ (call1 "ZEROP" (variable "X")) ∷ []) (call2 "EQUAL" (variable "X") (call0 "ZERO")) ((codes "X", x) ∷ []) (grown zero_or_not_number_clause zero_or_not_number h) (d2, (d1, tt)) ((equal_symbol h, ox), (zero_symbol h))

-- (ZEROP X), (NOT (EQUAL X 0))
abbrev positive_is_not_zero_log : List LogLine
positive_is_not_zero_log =
    Ruled (Replace 1 1 (1 ∷ []) (variable "X") Backwards) ∷ []

pub positive_is_not_zero : Derivable [] (clause positive_is_not_zero_clause)
unfolding symbols_of number_of
positive_is_not_zero = everywhere (zero_is_zero_clause ∷ []) positive_is_not_zero_log positive_is_not_zero_clause refl (zero_is_zero, tt) refl

-- (NOT (NUMBERP X)), (EQUAL (FIX X) X)
abbrev fix_of_number_log : List LogLine
fix_of_number_log =
    Ruled (AxiomRow (codes "FIX") 1 0)
    ∷ Ruled (AxiomRow (codes "IF") 2 0)
    ∷ Ruled (Instance 2 ((codes "X", (call1 "NUMBERP" (variable "X"))) ∷ (codes "Y", (variable "X")) ∷ (codes "Z", (call0 "ZERO")) ∷ []))
    ∷ Ruled (Reflexive (variable "X"))
    ∷ Ruled (Replace 4 1 (1 ∷ []) (call3 "IF" (call1 "NUMBERP" (variable "X")) (variable "X") (call0 "ZERO")) Backwards)
    ∷ Ruled (Cut 3 5 (call2 "EQUAL" (call3 "IF" (call1 "NUMBERP" (variable "X")) (variable "X") (call0 "ZERO")) (variable "X")))
    ∷ Ruled (Replace 6 2 (1 ∷ []) (call1 "FIX" (variable "X")) Backwards)
    ∷ Ruled (Cut 1 7 (call2 "EQUAL" (call1 "FIX" (variable "X")) (call3 "IF" (call1 "NUMBERP" (variable "X")) (variable "X") (call0 "ZERO")))) ∷ []

pub fix_of_number : Derivable [] (clause fix_of_number_clause)
unfolding symbols_of number_of
fix_of_number = everywhere [] fix_of_number_log fix_of_number_clause refl tt refl

pub fix_of_number_at : (h : History) (x : Term) → IsTerm (symbols_of h) x → Derivable h (clause ((call1 "NUMBERP" x) ∷ [])) → Derivable h (clause ((call2 "EQUAL" (call1 "FIX" x) x) ∷ []))
fix_of_number_at h x ox d1 =
    by_law h ((call1 "NUMBERP" (variable "X")) ∷ []) (call2 "EQUAL" (call1 "FIX" (variable "X")) (variable "X")) ((codes "X", x) ∷ []) (grown fix_of_number_clause fix_of_number h) (d1, tt) ((equal_symbol h, (fix_symbol h, ox)), ox)

-- (NUMBERP X), (EQUAL (FIX X) 0)
abbrev fix_of_other_log : List LogLine
fix_of_other_log =
    Ruled (AxiomRow (codes "FIX") 1 0)
    ∷ Ruled (AxiomRow (codes "IF") 1 0)
    ∷ Ruled (Reflexive (call0 "ZERO"))
    ∷ Ruled (Instance 2 ((codes "X", (call1 "NUMBERP" (variable "X"))) ∷ (codes "Y", (variable "X")) ∷ (codes "Z", (call0 "ZERO")) ∷ []))
    ∷ Ruled (Replace 3 1 (1 ∷ []) (call3 "IF" (call1 "NUMBERP" (variable "X")) (variable "X") (call0 "ZERO")) Backwards)
    ∷ Ruled (Cut 4 5 (call2 "EQUAL" (call3 "IF" (call1 "NUMBERP" (variable "X")) (variable "X") (call0 "ZERO")) (call0 "ZERO")))
    ∷ Ruled (Replace 6 2 (1 ∷ []) (call1 "FIX" (variable "X")) Backwards)
    ∷ Ruled (Cut 1 7 (call2 "EQUAL" (call1 "FIX" (variable "X")) (call3 "IF" (call1 "NUMBERP" (variable "X")) (variable "X") (call0 "ZERO")))) ∷ []

pub fix_of_other : Derivable [] (clause fix_of_other_clause)
unfolding symbols_of number_of
fix_of_other = everywhere [] fix_of_other_log fix_of_other_clause refl tt refl

-- (NOT (ZEROP X)), (EQUAL (FIX X) 0)
abbrev fix_of_zero_log : List LogLine
fix_of_zero_log =
    Ruled (AxiomRow (codes "FIX") 1 0)
    ∷ Ruled (AxiomRow (codes "IF") 2 0)
    ∷ Ruled (AxiomRow (codes "IF") 1 0)
    ∷ Ruled (Reflexive (call0 "ZERO"))
    ∷ Ruled (Instance 3 ((codes "X", (call1 "NUMBERP" (variable "X"))) ∷ (codes "Y", (variable "X")) ∷ (codes "Z", (call0 "ZERO")) ∷ []))
    ∷ Ruled (Instance 4 ((codes "X", (call1 "NUMBERP" (variable "X"))) ∷ (codes "Y", (variable "X")) ∷ (codes "Z", (call0 "ZERO")) ∷ []))
    ∷ Ruled (Replace 5 1 (1 ∷ []) (call3 "IF" (call1 "NUMBERP" (variable "X")) (variable "X") (call0 "ZERO")) Backwards)
    ∷ Ruled (Cut 7 8 (call2 "EQUAL" (call3 "IF" (call1 "NUMBERP" (variable "X")) (variable "X") (call0 "ZERO")) (call0 "ZERO")))
    ∷ Ruled (Replace 1 3 (1 ∷ []) (call3 "IF" (call1 "NUMBERP" (variable "X")) (variable "X") (call0 "ZERO")) Backwards)
    ∷ Ruled (Cut 6 10 (call2 "EQUAL" (call3 "IF" (call1 "NUMBERP" (variable "X")) (variable "X") (call0 "ZERO")) (variable "X")))
    ∷ Ruled (Cut 9 11 (call1 "NUMBERP" (variable "X")))
    ∷ Ruled (Replace 12 1 (1 ∷ []) (call1 "FIX" (variable "X")) Backwards)
    ∷ Ruled (Cut 2 13 (call2 "EQUAL" (call1 "FIX" (variable "X")) (call3 "IF" (call1 "NUMBERP" (variable "X")) (variable "X") (call0 "ZERO"))))
    ∷ Ruled (Taut ((call1 "NOT" (call2 "EQUAL" (call1 "FIX" (variable "X")) (call0 "ZERO"))) ∷ (call2 "EQUAL" (call1 "FIX" (variable "X")) (call0 "ZERO")) ∷ []))
    ∷ Ruled (Cut 14 15 (call2 "EQUAL" (call1 "FIX" (variable "X")) (call0 "ZERO"))) ∷ []

pub fix_of_zero : Derivable [] (clause fix_of_zero_clause)
unfolding symbols_of number_of
fix_of_zero = everywhere (zero_or_not_number_clause ∷ []) fix_of_zero_log fix_of_zero_clause refl (zero_or_not_number, tt) refl

pub fix_of_zero_at : (h : History) (x : Term) → IsTerm (symbols_of h) x → Derivable h (clause ((call1 "ZEROP" x) ∷ [])) → Derivable h (clause ((call2 "EQUAL" (call1 "FIX" x) (call0 "ZERO")) ∷ []))
fix_of_zero_at h x ox d1 =
    by_law h ((call1 "ZEROP" (variable "X")) ∷ []) (call2 "EQUAL" (call1 "FIX" (variable "X")) (call0 "ZERO")) ((codes "X", x) ∷ []) (grown fix_of_zero_clause fix_of_zero h) (d1, tt) ((equal_symbol h, (fix_symbol h, ox)), (zero_symbol h))

-- (ZEROP X), (EQUAL (FIX X) X)
abbrev fix_of_positive_log : List LogLine
fix_of_positive_log =
    Ruled (AxiomRow (codes "FIX") 1 0)
    ∷ Ruled (AxiomRow (codes "IF") 2 0)
    ∷ Ruled (Instance 3 ((codes "X", (call1 "NUMBERP" (variable "X"))) ∷ (codes "Y", (variable "X")) ∷ (codes "Z", (call0 "ZERO")) ∷ []))
    ∷ Ruled (Reflexive (variable "X"))
    ∷ Ruled (Replace 5 1 (1 ∷ []) (call3 "IF" (call1 "NUMBERP" (variable "X")) (variable "X") (call0 "ZERO")) Backwards)
    ∷ Ruled (Cut 4 6 (call2 "EQUAL" (call3 "IF" (call1 "NUMBERP" (variable "X")) (variable "X") (call0 "ZERO")) (variable "X")))
    ∷ Ruled (Cut 1 7 (call1 "NUMBERP" (variable "X")))
    ∷ Ruled (Replace 8 2 (1 ∷ []) (call1 "FIX" (variable "X")) Backwards)
    ∷ Ruled (Cut 2 9 (call2 "EQUAL" (call1 "FIX" (variable "X")) (call3 "IF" (call1 "NUMBERP" (variable "X")) (variable "X") (call0 "ZERO")))) ∷ []

pub fix_of_positive : Derivable [] (clause fix_of_positive_clause)
unfolding symbols_of number_of
fix_of_positive = everywhere (not_zero_is_number_clause ∷ []) fix_of_positive_log fix_of_positive_clause refl (not_zero_is_number, tt) refl

-- (ZEROP X), (EQUAL (ADD1 (SUB1 X)) X)
abbrev add1_of_sub1_log : List LogLine
add1_of_sub1_log =
    Ruled (AxiomRow (codes "ADD1") 5 0)
    ∷ Ruled (Cut 3 2 (call2 "EQUAL" (variable "X") (call0 "ZERO")))
    ∷ Ruled (Cut 1 4 (call1 "NUMBERP" (variable "X"))) ∷ []

pub add1_of_sub1 : Derivable [] (clause add1_of_sub1_clause)
unfolding symbols_of number_of
add1_of_sub1 = everywhere (not_zero_is_number_clause ∷ positive_is_not_zero_clause ∷ []) add1_of_sub1_log add1_of_sub1_clause refl (not_zero_is_number, (positive_is_not_zero, tt)) refl

-- (NOT (ZEROP X)), (EQUAL (SUB1 X) 0)
abbrev sub1_of_zero_log : List LogLine
sub1_of_zero_log =
    Ruled (AxiomRow (codes "ADD1") 8 1)
    ∷ Ruled (AxiomRow (codes "ADD1") 9 1)
    ∷ Ruled (Reflexive (call0 "ZERO"))
    ∷ Ruled (Replace 4 1 (1 ∷ []) (call1 "SUB1" (call0 "ZERO")) Backwards)
    ∷ Ruled (Cut 3 5 (call2 "EQUAL" (call1 "SUB1" (call0 "ZERO")) (call0 "ZERO")))
    ∷ Ruled (Replace 6 1 (1 ∷ 1 ∷ []) (variable "X") Backwards)
    ∷ Ruled (Cut 1 7 (call2 "EQUAL" (variable "X") (call0 "ZERO")))
    ∷ Ruled (Cut 2 8 (call1 "NUMBERP" (variable "X")))
    ∷ Ruled (Taut ((call1 "NOT" (call2 "EQUAL" (call1 "SUB1" (variable "X")) (call0 "ZERO"))) ∷ (call2 "EQUAL" (call1 "SUB1" (variable "X")) (call0 "ZERO")) ∷ []))
    ∷ Ruled (Cut 9 10 (call2 "EQUAL" (call1 "SUB1" (variable "X")) (call0 "ZERO"))) ∷ []

pub sub1_of_zero : Derivable [] (clause sub1_of_zero_clause)
unfolding symbols_of number_of
sub1_of_zero = everywhere (zero_or_not_number_clause ∷ []) sub1_of_zero_log sub1_of_zero_clause refl (zero_or_not_number, tt) refl

pub sub1_of_zero_at : (h : History) (x : Term) → IsTerm (symbols_of h) x → Derivable h (clause ((call1 "ZEROP" x) ∷ [])) → Derivable h (clause ((call2 "EQUAL" (call1 "SUB1" x) (call0 "ZERO")) ∷ []))
sub1_of_zero_at h x ox d1 =
    by_law h ((call1 "ZEROP" (variable "X")) ∷ []) (call2 "EQUAL" (call1 "SUB1" (variable "X")) (call0 "ZERO")) ((codes "X", x) ∷ []) (grown sub1_of_zero_clause sub1_of_zero h) (d1, tt) ((equal_symbol h, (sub1_symbol h, ox)), (zero_symbol h))

-- (NUMBERP (SUB1 X))
abbrev sub1_is_number_log : List LogLine
sub1_is_number_log =
    Ruled (AxiomRow (codes "ADD1") 7 1)
    ∷ Ruled (Instance 4 ((codes "X1", (call1 "SUB1" (variable "X"))) ∷ []))
    ∷ Ruled (Replace 5 2 (1 ∷ 1 ∷ []) (variable "X") Forwards)
    ∷ Ruled (Cut 2 6 (call2 "EQUAL" (call1 "ADD1" (call1 "SUB1" (variable "X"))) (variable "X")))
    ∷ Ruled (Replace 1 1 (1 ∷ []) (call1 "SUB1" (variable "X")) Backwards)
    ∷ Ruled (Cut 7 8 (call2 "EQUAL" (call1 "SUB1" (variable "X")) (call0 "ZERO")))
    ∷ Ruled (Cut 3 8 (call2 "EQUAL" (call1 "SUB1" (variable "X")) (call0 "ZERO")))
    ∷ Ruled (Cut 9 10 (call1 "ZEROP" (variable "X"))) ∷ []

pub sub1_is_number : Derivable [] (clause sub1_is_number_clause)
unfolding symbols_of number_of
sub1_is_number = everywhere (zero_is_number_clause ∷ add1_of_sub1_clause ∷ sub1_of_zero_clause ∷ []) sub1_is_number_log sub1_is_number_clause refl (zero_is_number, (add1_of_sub1, (sub1_of_zero, tt))) refl

pub sub1_is_number_at : (h : History) (x : Term) → IsTerm (symbols_of h) x → Derivable h (clause ((call1 "NUMBERP" (call1 "SUB1" x)) ∷ []))
sub1_is_number_at h x ox =
    by_law h [] (call1 "NUMBERP" (call1 "SUB1" (variable "X"))) ((codes "X", x) ∷ []) (grown sub1_is_number_clause sub1_is_number h) tt (numberp_symbol h, (sub1_symbol h, ox))

-- (EQUAL (FIX (SUB1 X)) (SUB1 X))
abbrev fix_of_sub1_log : List LogLine
fix_of_sub1_log =
    Ruled (AxiomRow (codes "FIX") 1 0)
    ∷ Ruled (AxiomRow (codes "IF") 2 0)
    ∷ Ruled (Instance 2 ((codes "X", (call1 "SUB1" (variable "X"))) ∷ []))
    ∷ Ruled (Instance 3 ((codes "X", (call1 "NUMBERP" (call1 "SUB1" (variable "X")))) ∷ (codes "Y", (call1 "SUB1" (variable "X"))) ∷ (codes "Z", (call0 "ZERO")) ∷ []))
    ∷ Ruled (Reflexive (call1 "SUB1" (variable "X")))
    ∷ Ruled (Replace 6 1 (1 ∷ []) (call3 "IF" (call1 "NUMBERP" (call1 "SUB1" (variable "X"))) (call1 "SUB1" (variable "X")) (call0 "ZERO")) Backwards)
    ∷ Ruled (Cut 5 7 (call2 "EQUAL" (call3 "IF" (call1 "NUMBERP" (call1 "SUB1" (variable "X"))) (call1 "SUB1" (variable "X")) (call0 "ZERO")) (call1 "SUB1" (variable "X"))))
    ∷ Ruled (Cut 1 8 (call1 "NUMBERP" (call1 "SUB1" (variable "X"))))
    ∷ Ruled (Replace 9 1 (1 ∷ []) (call1 "FIX" (call1 "SUB1" (variable "X"))) Backwards)
    ∷ Ruled (Cut 4 10 (call2 "EQUAL" (call1 "FIX" (call1 "SUB1" (variable "X"))) (call3 "IF" (call1 "NUMBERP" (call1 "SUB1" (variable "X"))) (call1 "SUB1" (variable "X")) (call0 "ZERO")))) ∷ []

pub fix_of_sub1 : Derivable [] (clause fix_of_sub1_clause)
unfolding symbols_of number_of
fix_of_sub1 = everywhere (sub1_is_number_clause ∷ []) fix_of_sub1_log fix_of_sub1_clause refl (sub1_is_number, tt) refl

pub fix_of_sub1_at : (h : History) (x : Term) → IsTerm (symbols_of h) x → Derivable h (clause ((call2 "EQUAL" (call1 "FIX" (call1 "SUB1" x)) (call1 "SUB1" x)) ∷ []))
fix_of_sub1_at h x ox =
    by_law h [] (call2 "EQUAL" (call1 "FIX" (call1 "SUB1" (variable "X"))) (call1 "SUB1" (variable "X"))) ((codes "X", x) ∷ []) (grown fix_of_sub1_clause fix_of_sub1 h) tt ((equal_symbol h, (fix_symbol h, (sub1_symbol h, ox))), (sub1_symbol h, ox))

pub laws_of_zero_hold : AreDerivable laws_of_zero
laws_of_zero_hold h = (grown add1_is_number_clause add1_is_number h, (grown zero_is_number_clause zero_is_number h, (grown zero_is_zero_clause zero_is_zero h, (grown add1_is_not_zero_clause add1_is_not_zero h, (grown not_zero_is_number_clause not_zero_is_number h, (grown zero_or_not_number_clause zero_or_not_number h, (grown positive_is_not_zero_clause positive_is_not_zero h, (grown fix_of_number_clause fix_of_number h, (grown fix_of_other_clause fix_of_other h, (grown fix_of_zero_clause fix_of_zero h, (grown fix_of_positive_clause fix_of_positive h, (grown add1_of_sub1_clause add1_of_sub1 h, (grown sub1_of_zero_clause sub1_of_zero h, (grown sub1_is_number_clause sub1_is_number h, (grown fix_of_sub1_clause fix_of_sub1 h, tt)))))))))))))))
