-- Laws of DIFFERENCE of a sum in the ground history, each by a log over earlier ones, and at terms of any history.
use Rattle.std.proofs.Common.{List, [], ◌∷◌, refl}
use Rattle.std.specs.Prelude.{codes}
use Rattle.nq_logic.specs.Terms.{Term, IsTerm}
use Rattle.nq_logic.specs.Words.{variable, call0, call1, call2, call3}
use Rattle.nq_logic.specs.Histories.{History}
use Rattle.nq_logic.specs.Ground.{symbols_of}
use Rattle.nq_logic.specs.Numerals.{number_of}
use Rattle.nq_logic.specs.Formulas.{clause}
use Rattle.nq_logic.specs.Derivations.{Derivable}
use Rattle.nq_proof.specs.Rules.{Taut, AxiomRow, Cut, Instance, Reflexive, Replace, Induct, Forwards, Backwards}
use Rattle.nq_proof.specs.Logs.{LogLine, Ruled}
use Rattle.nq_proof.proofs.SoundLogs.{everywhere, grown}
use Rattle.nq_proof.proofs.ByLaw.{by_law}
use Rattle.nq_laws.specs.Laws.{AreDerivable}
use Rattle.nq_logic.proofs.Symbols.{difference_symbol, equal_symbol, fix_symbol, plus_symbol, zero_symbol}
use Rattle.nq_laws.specs.Differences.{fix_of_sum_clause, sum_with_one_zero_more_clause, difference_of_positives_clause, difference_of_add1_clause, difference_of_fix_with_zero_clause, difference_of_sum_clause, laws_of_differences}
use Rattle.nq_laws.specs.Zero.{fix_of_number_clause, add1_is_not_zero_clause, fix_of_zero_clause, fix_of_positive_clause}
use Rattle.nq_laws.proofs.Zero.{fix_of_number, add1_is_not_zero, fix_of_zero, fix_of_positive}
use Rattle.nq_laws.specs.Ordinals.{size_is_ordinal_clause, size_falls_clause}
use Rattle.nq_laws.proofs.Ordinals.{size_is_ordinal, size_falls}
use Rattle.nq_laws.specs.Plus.{sum_is_number_clause, sum_with_zero_clause, sum_with_fix_clause, sum_at_zero_clause, sum_at_positive_clause}
use Rattle.nq_laws.proofs.Plus.{sum_is_number, sum_with_zero, sum_with_fix, sum_at_zero, sum_at_positive}
use Rattle.nq_laws.specs.Parts.{sub1_of_add1_clause}
use Rattle.nq_laws.proofs.Parts.{sub1_of_add1}
use Rattle.nq_laws.specs.Quotients.{difference_from_zero_value_clause}
use Rattle.nq_laws.proofs.Quotients.{difference_from_zero_value}
use Rattle.nq_laws.specs.Fixes.{difference_with_zero_clause}
use Rattle.nq_laws.proofs.Fixes.{difference_with_zero}

-- (EQUAL (FIX (PLUS X Y)) (PLUS X Y))
abbrev fix_of_sum_log : List LogLine
fix_of_sum_log =
    Ruled (Instance 2 ((codes "X", (call2 "PLUS" (variable "X") (variable "Y"))) ∷ []))
    ∷ Ruled (Cut 1 3 (call1 "NUMBERP" (call2 "PLUS" (variable "X") (variable "Y")))) ∷ []

pub fix_of_sum : Derivable [] (clause fix_of_sum_clause)
unfolding symbols_of number_of
fix_of_sum = everywhere (sum_is_number_clause ∷ fix_of_number_clause ∷ []) fix_of_sum_log fix_of_sum_clause refl (sum_is_number, (fix_of_number, tt)) refl

pub fix_of_sum_at : (h : History) (x y : Term) → IsTerm (symbols_of h) x → IsTerm (symbols_of h) y → Derivable h (clause ((call2 "EQUAL" (call1 "FIX" (call2 "PLUS" x y)) (call2 "PLUS" x y)) ∷ []))
fix_of_sum_at h x y ox oy =
    by_law h [] (call2 "EQUAL" (call1 "FIX" (call2 "PLUS" (variable "X") (variable "Y"))) (call2 "PLUS" (variable "X") (variable "Y"))) ((codes "X", x) ∷ (codes "Y", y) ∷ []) (grown fix_of_sum_clause fix_of_sum h) tt ((equal_symbol h, (fix_symbol h, ((plus_symbol h, ox), oy))), ((plus_symbol h, ox), oy))

-- (EQUAL (PLUS X Y) (PLUS X (PLUS Y 0)))
abbrev sum_with_one_zero_more_log : List LogLine
sum_with_one_zero_more_log =
    Ruled (Reflexive (call2 "PLUS" (variable "X") (call2 "PLUS" (variable "Y") (call0 "ZERO"))))
    ∷ Ruled (Instance 1 ((codes "X", (variable "Y")) ∷ []))
    ∷ Ruled (Replace 3 1 (2 ∷ 2 ∷ []) (call1 "FIX" (variable "Y")) Forwards)
    ∷ Ruled (Cut 4 5 (call2 "EQUAL" (call2 "PLUS" (variable "Y") (call0 "ZERO")) (call1 "FIX" (variable "Y"))))
    ∷ Ruled (Replace 6 1 (2 ∷ []) (call2 "PLUS" (variable "X") (variable "Y")) Forwards)
    ∷ Ruled (Cut 2 7 (call2 "EQUAL" (call2 "PLUS" (variable "X") (call1 "FIX" (variable "Y"))) (call2 "PLUS" (variable "X") (variable "Y"))))
    ∷ Ruled (Replace 3 1 (1 ∷ []) (call2 "PLUS" (variable "X") (variable "Y")) Forwards)
    ∷ Ruled (Cut 8 9 (call2 "EQUAL" (call2 "PLUS" (variable "X") (call2 "PLUS" (variable "Y") (call0 "ZERO"))) (call2 "PLUS" (variable "X") (variable "Y")))) ∷ []

pub sum_with_one_zero_more : Derivable [] (clause sum_with_one_zero_more_clause)
unfolding symbols_of number_of
sum_with_one_zero_more = everywhere (sum_with_zero_clause ∷ sum_with_fix_clause ∷ []) sum_with_one_zero_more_log sum_with_one_zero_more_clause refl (sum_with_zero, (sum_with_fix, tt)) refl

pub sum_with_one_zero_more_at : (h : History) (x y : Term) → IsTerm (symbols_of h) x → IsTerm (symbols_of h) y → Derivable h (clause ((call2 "EQUAL" (call2 "PLUS" x y) (call2 "PLUS" x (call2 "PLUS" y (call0 "ZERO")))) ∷ []))
sum_with_one_zero_more_at h x y ox oy =
    by_law h [] (call2 "EQUAL" (call2 "PLUS" (variable "X") (variable "Y")) (call2 "PLUS" (variable "X") (call2 "PLUS" (variable "Y") (call0 "ZERO")))) ((codes "X", x) ∷ (codes "Y", y) ∷ []) (grown sum_with_one_zero_more_clause sum_with_one_zero_more h) tt ((equal_symbol h, ((plus_symbol h, ox), oy)), ((plus_symbol h, ox), ((plus_symbol h, oy), (zero_symbol h))))

-- (ZEROP Y), (ZEROP X), (EQUAL (DIFFERENCE X Y) (DIFFERENCE (SUB1 X) (SUB1 Y)))
abbrev difference_of_positives_log : List LogLine
difference_of_positives_log =
    Ruled (AxiomRow (codes "IF") 1 0)
    ∷ Ruled (AxiomRow (codes "DIFFERENCE") 1 0)
    ∷ Ruled (Instance 1 ((codes "X", (call1 "ZEROP" (variable "Y"))) ∷ (codes "Y", (variable "X")) ∷ (codes "Z", (call2 "DIFFERENCE" (call1 "SUB1" (variable "X")) (call1 "SUB1" (variable "Y")))) ∷ []))
    ∷ Ruled (Instance 1 ((codes "X", (call1 "ZEROP" (variable "X"))) ∷ (codes "Y", (call0 "ZERO")) ∷ (codes "Z", (call2 "DIFFERENCE" (call1 "SUB1" (variable "X")) (call1 "SUB1" (variable "Y")))) ∷ []))
    ∷ Ruled (Reflexive (call2 "DIFFERENCE" (call1 "SUB1" (variable "X")) (call1 "SUB1" (variable "Y"))))
    ∷ Ruled (Replace 5 1 (1 ∷ []) (call3 "IF" (call1 "ZEROP" (variable "X")) (call0 "ZERO") (call2 "DIFFERENCE" (call1 "SUB1" (variable "X")) (call1 "SUB1" (variable "Y")))) Backwards)
    ∷ Ruled (Cut 4 6 (call2 "EQUAL" (call3 "IF" (call1 "ZEROP" (variable "X")) (call0 "ZERO") (call2 "DIFFERENCE" (call1 "SUB1" (variable "X")) (call1 "SUB1" (variable "Y")))) (call2 "DIFFERENCE" (call1 "SUB1" (variable "X")) (call1 "SUB1" (variable "Y")))))
    ∷ Ruled (Replace 7 2 (1 ∷ 3 ∷ []) (call3 "IF" (call1 "ZEROP" (variable "Y")) (variable "X") (call2 "DIFFERENCE" (call1 "SUB1" (variable "X")) (call1 "SUB1" (variable "Y")))) Backwards)
    ∷ Ruled (Cut 3 8 (call2 "EQUAL" (call3 "IF" (call1 "ZEROP" (variable "Y")) (variable "X") (call2 "DIFFERENCE" (call1 "SUB1" (variable "X")) (call1 "SUB1" (variable "Y")))) (call2 "DIFFERENCE" (call1 "SUB1" (variable "X")) (call1 "SUB1" (variable "Y")))))
    ∷ Ruled (Replace 9 3 (1 ∷ []) (call2 "DIFFERENCE" (variable "X") (variable "Y")) Backwards)
    ∷ Ruled (Cut 2 10 (call2 "EQUAL" (call2 "DIFFERENCE" (variable "X") (variable "Y")) (call3 "IF" (call1 "ZEROP" (variable "X")) (call0 "ZERO") (call3 "IF" (call1 "ZEROP" (variable "Y")) (variable "X") (call2 "DIFFERENCE" (call1 "SUB1" (variable "X")) (call1 "SUB1" (variable "Y"))))))) ∷ []

pub difference_of_positives : Derivable [] (clause difference_of_positives_clause)
unfolding symbols_of number_of
difference_of_positives = everywhere [] difference_of_positives_log difference_of_positives_clause refl tt refl

-- (ZEROP Y), (EQUAL (DIFFERENCE (ADD1 (PLUS X Z)) Y) (DIFFERENCE (PLUS X Z) (SUB1 Y)))
abbrev difference_of_add1_log : List LogLine
difference_of_add1_log =
    Ruled (AxiomRow (codes "IF") 1 0)
    ∷ Ruled (AxiomRow (codes "FALSE") 1 0)
    ∷ Ruled (AxiomRow (codes "DIFFERENCE") 1 0)
    ∷ Ruled (Instance 1 ((codes "X1", (call2 "PLUS" (variable "X") (variable "Y"))) ∷ []))
    ∷ Ruled (Cut 2 7 (call1 "NUMBERP" (call2 "PLUS" (variable "X") (variable "Y"))))
    ∷ Ruled (Instance 6 ((codes "X", (call1 "ADD1" (call2 "PLUS" (variable "X") (variable "Z")))) ∷ []))
    ∷ Ruled (Instance 3 ((codes "X", (call2 "PLUS" (variable "X") (variable "Z"))) ∷ []))
    ∷ Ruled (Instance 8 ((codes "Y", (variable "Z")) ∷ []))
    ∷ Ruled (Instance 4 ((codes "X", (call1 "ZEROP" (variable "Y"))) ∷ (codes "Y", (call1 "ADD1" (call2 "PLUS" (variable "X") (variable "Z")))) ∷ (codes "Z", (call2 "DIFFERENCE" (call2 "PLUS" (variable "X") (variable "Z")) (call1 "SUB1" (variable "Y")))) ∷ []))
    ∷ Ruled (Instance 4 ((codes "X", (call0 "FALSE")) ∷ (codes "Y", (call0 "ZERO")) ∷ (codes "Z", (call2 "DIFFERENCE" (call2 "PLUS" (variable "X") (variable "Z")) (call1 "SUB1" (variable "Y")))) ∷ []))
    ∷ Ruled (Cut 13 5 (call0 "FALSE"))
    ∷ Ruled (Reflexive (call2 "DIFFERENCE" (call2 "PLUS" (variable "X") (variable "Z")) (call1 "SUB1" (variable "Y"))))
    ∷ Ruled (Replace 15 1 (1 ∷ []) (call3 "IF" (call0 "FALSE") (call0 "ZERO") (call2 "DIFFERENCE" (call2 "PLUS" (variable "X") (variable "Z")) (call1 "SUB1" (variable "Y")))) Backwards)
    ∷ Ruled (Cut 14 16 (call2 "EQUAL" (call3 "IF" (call0 "FALSE") (call0 "ZERO") (call2 "DIFFERENCE" (call2 "PLUS" (variable "X") (variable "Z")) (call1 "SUB1" (variable "Y")))) (call2 "DIFFERENCE" (call2 "PLUS" (variable "X") (variable "Z")) (call1 "SUB1" (variable "Y")))))
    ∷ Ruled (Replace 17 1 (1 ∷ 3 ∷ []) (call3 "IF" (call1 "ZEROP" (variable "Y")) (call1 "ADD1" (call2 "PLUS" (variable "X") (variable "Z"))) (call2 "DIFFERENCE" (call2 "PLUS" (variable "X") (variable "Z")) (call1 "SUB1" (variable "Y")))) Backwards)
    ∷ Ruled (Cut 12 18 (call2 "EQUAL" (call3 "IF" (call1 "ZEROP" (variable "Y")) (call1 "ADD1" (call2 "PLUS" (variable "X") (variable "Z"))) (call2 "DIFFERENCE" (call2 "PLUS" (variable "X") (variable "Z")) (call1 "SUB1" (variable "Y")))) (call2 "DIFFERENCE" (call2 "PLUS" (variable "X") (variable "Z")) (call1 "SUB1" (variable "Y")))))
    ∷ Ruled (Replace 19 2 (1 ∷ 3 ∷ 3 ∷ 1 ∷ []) (call1 "SUB1" (call1 "ADD1" (call2 "PLUS" (variable "X") (variable "Z")))) Backwards)
    ∷ Ruled (Cut 11 20 (call2 "EQUAL" (call1 "SUB1" (call1 "ADD1" (call2 "PLUS" (variable "X") (variable "Z")))) (call2 "PLUS" (variable "X") (variable "Z"))))
    ∷ Ruled (Replace 21 2 (1 ∷ 1 ∷ []) (call1 "ZEROP" (call1 "ADD1" (call2 "PLUS" (variable "X") (variable "Z")))) Backwards)
    ∷ Ruled (Cut 10 22 (call2 "EQUAL" (call1 "ZEROP" (call1 "ADD1" (call2 "PLUS" (variable "X") (variable "Z")))) (call0 "FALSE")))
    ∷ Ruled (Replace 23 2 (1 ∷ []) (call2 "DIFFERENCE" (call1 "ADD1" (call2 "PLUS" (variable "X") (variable "Z"))) (variable "Y")) Backwards)
    ∷ Ruled (Cut 9 24 (call2 "EQUAL" (call2 "DIFFERENCE" (call1 "ADD1" (call2 "PLUS" (variable "X") (variable "Z"))) (variable "Y")) (call3 "IF" (call1 "ZEROP" (call1 "ADD1" (call2 "PLUS" (variable "X") (variable "Z")))) (call0 "ZERO") (call3 "IF" (call1 "ZEROP" (variable "Y")) (call1 "ADD1" (call2 "PLUS" (variable "X") (variable "Z"))) (call2 "DIFFERENCE" (call1 "SUB1" (call1 "ADD1" (call2 "PLUS" (variable "X") (variable "Z")))) (call1 "SUB1" (variable "Y"))))))) ∷ []

pub difference_of_add1 : Derivable [] (clause difference_of_add1_clause)
unfolding symbols_of number_of
difference_of_add1 = everywhere (sub1_of_add1_clause ∷ sum_is_number_clause ∷ add1_is_not_zero_clause ∷ []) difference_of_add1_log difference_of_add1_clause refl (sub1_of_add1, (sum_is_number, (add1_is_not_zero, tt))) refl

-- (NOT (ZEROP X)), (EQUAL (DIFFERENCE (FIX Y) X) (FIX Y))
abbrev difference_of_fix_with_zero_log : List LogLine
difference_of_fix_with_zero_log =
    Ruled (Reflexive (call0 "ZERO"))
    ∷ Ruled (Instance 1 ((codes "X", (variable "Y")) ∷ []))
    ∷ Ruled (Instance 2 ((codes "X", (variable "Y")) ∷ []))
    ∷ Ruled (Reflexive (variable "Y"))
    ∷ Ruled (Instance 3 ((codes "Y", (variable "X")) ∷ []))
    ∷ Ruled (Replace 5 1 (2 ∷ []) (call1 "FIX" (variable "Y")) Backwards)
    ∷ Ruled (Cut 6 10 (call2 "EQUAL" (call1 "FIX" (variable "Y")) (call0 "ZERO")))
    ∷ Ruled (Replace 11 2 (1 ∷ []) (call2 "DIFFERENCE" (call0 "ZERO") (variable "X")) Backwards)
    ∷ Ruled (Cut 9 12 (call2 "EQUAL" (call2 "DIFFERENCE" (call0 "ZERO") (variable "X")) (call0 "ZERO")))
    ∷ Ruled (Replace 13 2 (1 ∷ 1 ∷ []) (call1 "FIX" (variable "Y")) Backwards)
    ∷ Ruled (Cut 6 14 (call2 "EQUAL" (call1 "FIX" (variable "Y")) (call0 "ZERO")))
    ∷ Ruled (Instance 4 ((codes "X", (variable "Y")) ∷ (codes "Y", (variable "X")) ∷ []))
    ∷ Ruled (Replace 8 1 (2 ∷ []) (call1 "FIX" (variable "Y")) Backwards)
    ∷ Ruled (Cut 7 17 (call2 "EQUAL" (call1 "FIX" (variable "Y")) (variable "Y")))
    ∷ Ruled (Replace 18 2 (1 ∷ []) (call2 "DIFFERENCE" (variable "Y") (variable "X")) Backwards)
    ∷ Ruled (Cut 16 19 (call2 "EQUAL" (call2 "DIFFERENCE" (variable "Y") (variable "X")) (variable "Y")))
    ∷ Ruled (Replace 20 3 (1 ∷ 1 ∷ []) (call1 "FIX" (variable "Y")) Backwards)
    ∷ Ruled (Cut 7 21 (call2 "EQUAL" (call1 "FIX" (variable "Y")) (variable "Y")))
    ∷ Ruled (Cut 22 15 (call1 "ZEROP" (variable "Y"))) ∷ []

pub difference_of_fix_with_zero : Derivable [] (clause difference_of_fix_with_zero_clause)
unfolding symbols_of number_of
difference_of_fix_with_zero = everywhere (fix_of_zero_clause ∷ fix_of_positive_clause ∷ difference_from_zero_value_clause ∷ difference_with_zero_clause ∷ []) difference_of_fix_with_zero_log difference_of_fix_with_zero_clause refl (fix_of_zero, (fix_of_positive, (difference_from_zero_value, (difference_with_zero, tt)))) refl

pub difference_of_fix_with_zero_at : (h : History) (x y : Term) → IsTerm (symbols_of h) x → IsTerm (symbols_of h) y → Derivable h (clause ((call1 "ZEROP" x) ∷ [])) → Derivable h (clause ((call2 "EQUAL" (call2 "DIFFERENCE" (call1 "FIX" y) x) (call1 "FIX" y)) ∷ []))
difference_of_fix_with_zero_at h x y ox oy d1 =
    by_law h ((call1 "ZEROP" (variable "X")) ∷ []) (call2 "EQUAL" (call2 "DIFFERENCE" (call1 "FIX" (variable "Y")) (variable "X")) (call1 "FIX" (variable "Y"))) ((codes "X", x) ∷ (codes "Y", y) ∷ []) (grown difference_of_fix_with_zero_clause difference_of_fix_with_zero h) (d1, tt) ((equal_symbol h, ((difference_symbol h, (fix_symbol h, oy)), ox)), (fix_symbol h, oy))

-- (EQUAL (DIFFERENCE (PLUS X Y) X) (FIX Y))
abbrev difference_of_sum_log : List LogLine
difference_of_sum_log =
    Ruled (Taut ((call1 "NOT" (call1 "ZEROP" (variable "X"))) ∷ (call1 "NOT" (call1 "NOT" (call1 "ZEROP" (variable "X")))) ∷ []))
    ∷ Ruled (Reflexive (call1 "FIX" (variable "Y")))
    ∷ Ruled (Replace 8 1 (1 ∷ []) (call2 "DIFFERENCE" (call1 "FIX" (variable "Y")) (variable "X")) Backwards)
    ∷ Ruled (Cut 6 9 (call2 "EQUAL" (call2 "DIFFERENCE" (call1 "FIX" (variable "Y")) (variable "X")) (call1 "FIX" (variable "Y"))))
    ∷ Ruled (Replace 10 2 (1 ∷ 1 ∷ []) (call2 "PLUS" (variable "X") (variable "Y")) Backwards)
    ∷ Ruled (Cut 3 11 (call2 "EQUAL" (call2 "PLUS" (variable "X") (variable "Y")) (call1 "FIX" (variable "Y"))))
    ∷ Ruled (Instance 5 ((codes "X", (call1 "SUB1" (variable "X"))) ∷ (codes "Z", (variable "Y")) ∷ (codes "Y", (variable "X")) ∷ []))
    ∷ Ruled (Taut ((call2 "EQUAL" (call2 "DIFFERENCE" (call2 "PLUS" (call1 "SUB1" (variable "X")) (variable "Y")) (call1 "SUB1" (variable "X"))) (call1 "FIX" (variable "Y"))) ∷ (call1 "NOT" (call2 "EQUAL" (call2 "DIFFERENCE" (call2 "PLUS" (call1 "SUB1" (variable "X")) (variable "Y")) (call1 "SUB1" (variable "X"))) (call1 "FIX" (variable "Y")))) ∷ []))
    ∷ Ruled (Replace 14 1 (1 ∷ []) (call2 "DIFFERENCE" (call1 "ADD1" (call2 "PLUS" (call1 "SUB1" (variable "X")) (variable "Y"))) (variable "X")) Backwards)
    ∷ Ruled (Cut 13 15 (call2 "EQUAL" (call2 "DIFFERENCE" (call1 "ADD1" (call2 "PLUS" (call1 "SUB1" (variable "X")) (variable "Y"))) (variable "X")) (call2 "DIFFERENCE" (call2 "PLUS" (call1 "SUB1" (variable "X")) (variable "Y")) (call1 "SUB1" (variable "X")))))
    ∷ Ruled (Replace 16 2 (1 ∷ 1 ∷ []) (call2 "PLUS" (variable "X") (variable "Y")) Backwards)
    ∷ Ruled (Cut 4 17 (call2 "EQUAL" (call2 "PLUS" (variable "X") (variable "Y")) (call1 "ADD1" (call2 "PLUS" (call1 "SUB1" (variable "X")) (variable "Y")))))
    ∷ Ruled (Cut 18 7 (call1 "ZEROP" (variable "X")))
    ∷ Ruled (Induct (call2 "EQUAL" (call2 "DIFFERENCE" (call2 "PLUS" (variable "X") (variable "Y")) (variable "X")) (call1 "FIX" (variable "Y"))) (call1 "COUNT" (variable "X")) 1 12 (record { test = (call1 "NOT" (call1 "ZEROP" (variable "X"))); step = 19; hypotheses = (record { line = 2; pairs = ((codes "X", (call1 "SUB1" (variable "X"))) ∷ []) } ∷ []) } ∷ [])) ∷ []

pub difference_of_sum : Derivable [] (clause difference_of_sum_clause)
unfolding symbols_of number_of
difference_of_sum = everywhere (size_is_ordinal_clause ∷ size_falls_clause ∷ sum_at_zero_clause ∷ sum_at_positive_clause ∷ difference_of_add1_clause ∷ difference_of_fix_with_zero_clause ∷ []) difference_of_sum_log difference_of_sum_clause refl (size_is_ordinal, (size_falls, (sum_at_zero, (sum_at_positive, (difference_of_add1, (difference_of_fix_with_zero, tt)))))) refl

pub difference_of_sum_at : (h : History) (x y : Term) → IsTerm (symbols_of h) x → IsTerm (symbols_of h) y → Derivable h (clause ((call2 "EQUAL" (call2 "DIFFERENCE" (call2 "PLUS" x y) x) (call1 "FIX" y)) ∷ []))
difference_of_sum_at h x y ox oy =
    by_law h [] (call2 "EQUAL" (call2 "DIFFERENCE" (call2 "PLUS" (variable "X") (variable "Y")) (variable "X")) (call1 "FIX" (variable "Y"))) ((codes "X", x) ∷ (codes "Y", y) ∷ []) (grown difference_of_sum_clause difference_of_sum h) tt ((equal_symbol h, ((difference_symbol h, ((plus_symbol h, ox), oy)), ox)), (fix_symbol h, oy))

pub laws_of_differences_hold : AreDerivable laws_of_differences
laws_of_differences_hold h = (grown fix_of_sum_clause fix_of_sum h, (grown sum_with_one_zero_more_clause sum_with_one_zero_more h, (grown difference_of_positives_clause difference_of_positives h, (grown difference_of_add1_clause difference_of_add1 h, (grown difference_of_fix_with_zero_clause difference_of_fix_with_zero h, (grown difference_of_sum_clause difference_of_sum h, tt))))))
