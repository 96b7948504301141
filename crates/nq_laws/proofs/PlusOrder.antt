-- Laws of the order of terms in a PLUS in the ground history, each by a log over earlier ones, and at terms of any history.
use Rattle.std.proofs.Common.{List, [], ◌∷◌, refl}
use Rattle.std.specs.Prelude.{codes}
use Rattle.nq_logic.specs.Terms.{Term, IsTerm}
use Rattle.nq_logic.specs.Words.{variable, call0, call1, call2, call3}
use Rattle.nq_logic.specs.Histories.{History}
use Rattle.nq_logic.specs.Ground.{symbols_of}
use Rattle.nq_logic.specs.Numerals.{number_of}
use Rattle.nq_logic.specs.Formulas.{clause}
use Rattle.nq_logic.specs.Derivations.{Derivable}
use Rattle.nq_proof.specs.Rules.{Taut, AxiomRow, Cut, Instance, Reflexive, Replace, Induct, Forwards, Backwards}
use Rattle.nq_proof.specs.Logs.{LogLine, Ruled}
use Rattle.nq_proof.proofs.SoundLogs.{everywhere, grown}
use Rattle.nq_proof.proofs.ByLaw.{by_law}
use Rattle.nq_laws.specs.Laws.{AreDerivable}
use Rattle.nq_logic.proofs.Symbols.{add1_symbol, equal_symbol, fix_symbol, plus_symbol, zero_symbol}
use Rattle.nq_laws.specs.PlusOrder.{sum_with_no_positive_clause, sum_with_positive_clause, sum_commutes_clause, sum_of_add1_clause, sum_of_fix_clause, sum_associates_clause, sum_of_zero_and_number_clause, sum_step_clause, laws_of_plus_order}
use Rattle.nq_laws.specs.Zero.{fix_of_zero_clause, add1_of_sub1_clause, add1_is_not_zero_clause, zero_is_zero_clause, fix_of_positive_clause, fix_of_number_clause}
use Rattle.nq_laws.proofs.Zero.{fix_of_zero, add1_of_sub1, add1_is_not_zero, zero_is_zero, fix_of_positive, fix_of_number}
use Rattle.nq_laws.specs.Ordinals.{size_is_ordinal_clause, size_falls_clause}
use Rattle.nq_laws.proofs.Ordinals.{size_is_ordinal, size_falls}
use Rattle.nq_laws.specs.Plus.{sum_with_zero_clause, sum_with_fix_clause, sum_with_add1_clause, sum_at_zero_clause, sum_at_positive_clause, sum_is_number_clause}
use Rattle.nq_laws.proofs.Plus.{sum_with_zero, sum_with_fix, sum_with_add1, sum_at_zero, sum_at_positive, sum_is_number}

-- (NOT (ZEROP Y)), (EQUAL (PLUS X Y) (FIX X))
abbrev sum_with_no_positive_log : List LogLine
sum_with_no_positive_log =
    Ruled (Instance 1 ((codes "X", (variable "Y")) ∷ []))
    ∷ Ruled (Replace 3 1 (1 ∷ 2 ∷ []) (call0 "ZERO") Forwards)
    ∷ Ruled (Cut 4 5 (call2 "EQUAL" (call1 "FIX" (variable "Y")) (call0 "ZERO")))
    ∷ Ruled (Reflexive (call2 "PLUS" (variable "X") (call0 "ZERO")))
    ∷ Ruled (Replace 7 1 (1 ∷ []) (call2 "PLUS" (variable "X") (variable "Y")) Forwards)
    ∷ Ruled (Cut 6 8 (call2 "EQUAL" (call2 "PLUS" (variable "X") (call0 "ZERO")) (call2 "PLUS" (variable "X") (variable "Y"))))
    ∷ Ruled (Replace 9 2 (2 ∷ []) (call1 "FIX" (variable "X")) Forwards)
    ∷ Ruled (Cut 2 10 (call2 "EQUAL" (call2 "PLUS" (variable "X") (call0 "ZERO")) (call1 "FIX" (variable "X")))) ∷ []

pub sum_with_no_positive : Derivable [] (clause sum_with_no_positive_clause)
unfolding symbols_of number_of
sum_with_no_positive = everywhere (fix_of_zero_clause ∷ sum_with_zero_clause ∷ sum_with_fix_clause ∷ []) sum_with_no_positive_log sum_with_no_positive_clause refl (fix_of_zero, (sum_with_zero, (sum_with_fix, tt))) refl

pub sum_with_no_positive_at : (h : History) (x y : Term) → IsTerm (symbols_of h) x → IsTerm (symbols_of h) y → Derivable h (clause ((call1 "ZEROP" y) ∷ [])) → Derivable h (clause ((call2 "EQUAL" (call2 "PLUS" x y) (call1 "FIX" x)) ∷ []))
sum_with_no_positive_at h x y ox oy d1 =
    by_law h ((call1 "ZEROP" (variable "Y")) ∷ []) (call2 "EQUAL" (call2 "PLUS" (variable "X") (variable "Y")) (call1 "FIX" (variable "X"))) ((codes "X", x) ∷ (codes "Y", y) ∷ []) (grown sum_with_no_positive_clause sum_with_no_positive h) (d1, tt) ((equal_symbol h, ((plus_symbol h, ox), oy)), (fix_symbol h, ox))

-- (ZEROP Y), (EQUAL (PLUS X Y) (ADD1 (PLUS X (SUB1 Y))))
abbrev sum_with_positive_log : List LogLine
sum_with_positive_log =
    Ruled (Instance 2 ((codes "Y", (call1 "SUB1" (variable "Y"))) ∷ []))
    ∷ Ruled (Instance 1 ((codes "X", (variable "Y")) ∷ []))
    ∷ Ruled (Replace 3 1 (1 ∷ 2 ∷ []) (variable "Y") Forwards)
    ∷ Ruled (Cut 4 5 (call2 "EQUAL" (call1 "ADD1" (call1 "SUB1" (variable "Y"))) (variable "Y"))) ∷ []

pub sum_with_positive : Derivable [] (clause sum_with_positive_clause)
unfolding symbols_of number_of
sum_with_positive = everywhere (add1_of_sub1_clause ∷ sum_with_add1_clause ∷ []) sum_with_positive_log sum_with_positive_clause refl (add1_of_sub1, (sum_with_add1, tt)) refl

-- (EQUAL (PLUS X Y) (PLUS Y X))
abbrev sum_commutes_log : List LogLine
sum_commutes_log =
    Ruled (Taut ((call1 "NOT" (call1 "ZEROP" (variable "X"))) ∷ (call1 "NOT" (call1 "NOT" (call1 "ZEROP" (variable "X")))) ∷ []))
    ∷ Ruled (Reflexive (call1 "FIX" (variable "Y")))
    ∷ Ruled (Instance 5 ((codes "X", (variable "Y")) ∷ (codes "Y", (variable "X")) ∷ []))
    ∷ Ruled (Replace 8 1 (2 ∷ []) (call2 "PLUS" (variable "Y") (variable "X")) Backwards)
    ∷ Ruled (Cut 9 10 (call2 "EQUAL" (call2 "PLUS" (variable "Y") (variable "X")) (call1 "FIX" (variable "Y"))))
    ∷ Ruled (Replace 11 2 (1 ∷ []) (call2 "PLUS" (variable "X") (variable "Y")) Backwards)
    ∷ Ruled (Cut 3 12 (call2 "EQUAL" (call2 "PLUS" (variable "X") (variable "Y")) (call1 "FIX" (variable "Y"))))
    ∷ Ruled (Instance 6 ((codes "X", (variable "Y")) ∷ (codes "Y", (variable "X")) ∷ []))
    ∷ Ruled (Reflexive (call1 "ADD1" (call2 "PLUS" (variable "Y") (call1 "SUB1" (variable "X")))))
    ∷ Ruled (Replace 15 1 (2 ∷ []) (call2 "PLUS" (variable "Y") (variable "X")) Backwards)
    ∷ Ruled (Cut 14 16 (call2 "EQUAL" (call2 "PLUS" (variable "Y") (variable "X")) (call1 "ADD1" (call2 "PLUS" (variable "Y") (call1 "SUB1" (variable "X"))))))
    ∷ Ruled (Replace 17 2 (1 ∷ 1 ∷ []) (call2 "PLUS" (call1 "SUB1" (variable "X")) (variable "Y")) Backwards)
    ∷ Ruled (Replace 18 2 (1 ∷ []) (call2 "PLUS" (variable "X") (variable "Y")) Backwards)
    ∷ Ruled (Cut 4 19 (call2 "EQUAL" (call2 "PLUS" (variable "X") (variable "Y")) (call1 "ADD1" (call2 "PLUS" (call1 "SUB1" (variable "X")) (variable "Y")))))
    ∷ Ruled (Cut 20 7 (call1 "ZEROP" (variable "X")))
    ∷ Ruled (Induct (call2 "EQUAL" (call2 "PLUS" (variable "X") (variable "Y")) (call2 "PLUS" (variable "Y") (variable "X"))) (call1 "COUNT" (variable "X")) 1 13 (record { test = (call1 "NOT" (call1 "ZEROP" (variable "X"))); step = 21; hypotheses = (record { line = 2; pairs = ((codes "X", (call1 "SUB1" (variable "X"))) ∷ []) } ∷ []) } ∷ [])) ∷ []

pub sum_commutes : Derivable [] (clause sum_commutes_clause)
unfolding symbols_of number_of
sum_commutes = everywhere (size_is_ordinal_clause ∷ size_falls_clause ∷ sum_at_zero_clause ∷ sum_at_positive_clause ∷ sum_with_no_positive_clause ∷ sum_with_positive_clause ∷ []) sum_commutes_log sum_commutes_clause refl (size_is_ordinal, (size_falls, (sum_at_zero, (sum_at_positive, (sum_with_no_positive, (sum_with_positive, tt)))))) refl

pub sum_commutes_at : (h : History) (x y : Term) → IsTerm (symbols_of h) x → IsTerm (symbols_of h) y → Derivable h (clause ((call2 "EQUAL" (call2 "PLUS" x y) (call2 "PLUS" y x)) ∷ []))
sum_commutes_at h x y ox oy =
    by_law h [] (call2 "EQUAL" (call2 "PLUS" (variable "X") (variable "Y")) (call2 "PLUS" (variable "Y") (variable "X"))) ((codes "X", x) ∷ (codes "Y", y) ∷ []) (grown sum_commutes_clause sum_commutes h) tt ((equal_symbol h, ((plus_symbol h, ox), oy)), ((plus_symbol h, oy), ox))

-- (NOT (NUMBERP X)), (EQUAL (PLUS (ADD1 X) Y) (ADD1 (PLUS X Y)))
abbrev sum_of_add1_log : List LogLine
sum_of_add1_log =
    Ruled (AxiomRow (codes "ADD1") 6 1)
    ∷ Ruled (AxiomRow (codes "PLUS") 1 0)
    ∷ Ruled (AxiomRow (codes "IF") 1 0)
    ∷ Ruled (AxiomRow (codes "FALSE") 1 0)
    ∷ Ruled (Instance 3 ((codes "X", (call1 "ADD1" (variable "X"))) ∷ []))
    ∷ Ruled (Instance 2 ((codes "X1", (variable "X")) ∷ []))
    ∷ Ruled (Instance 4 ((codes "X", (call0 "FALSE")) ∷ (codes "Y", (call1 "FIX" (variable "Y"))) ∷ (codes "Z", (call1 "ADD1" (call2 "PLUS" (variable "X") (variable "Y")))) ∷ []))
    ∷ Ruled (Cut 8 5 (call0 "FALSE"))
    ∷ Ruled (Reflexive (call1 "ADD1" (call2 "PLUS" (variable "X") (variable "Y"))))
    ∷ Ruled (Replace 10 1 (1 ∷ []) (call3 "IF" (call0 "FALSE") (call1 "FIX" (variable "Y")) (call1 "ADD1" (call2 "PLUS" (variable "X") (variable "Y")))) Backwards)
    ∷ Ruled (Cut 9 11 (call2 "EQUAL" (call3 "IF" (call0 "FALSE") (call1 "FIX" (variable "Y")) (call1 "ADD1" (call2 "PLUS" (variable "X") (variable "Y")))) (call1 "ADD1" (call2 "PLUS" (variable "X") (variable "Y")))))
    ∷ Ruled (Replace 12 1 (1 ∷ 3 ∷ 1 ∷ 1 ∷ []) (call1 "SUB1" (call1 "ADD1" (variable "X"))) Backwards)
    ∷ Ruled (Cut 7 13 (call2 "EQUAL" (call1 "SUB1" (call1 "ADD1" (variable "X"))) (variable "X")))
    ∷ Ruled (Replace 14 2 (1 ∷ 1 ∷ []) (call1 "ZEROP" (call1 "ADD1" (variable "X"))) Backwards)
    ∷ Ruled (Cut 1 15 (call2 "EQUAL" (call1 "ZEROP" (call1 "ADD1" (variable "X"))) (call0 "FALSE")))
    ∷ Ruled (Replace 16 2 (1 ∷ []) (call2 "PLUS" (call1 "ADD1" (variable "X")) (variable "Y")) Backwards)
    ∷ Ruled (Cut 6 17 (call2 "EQUAL" (call2 "PLUS" (call1 "ADD1" (variable "X")) (variable "Y")) (call3 "IF" (call1 "ZEROP" (call1 "ADD1" (variable "X"))) (call1 "FIX" (variable "Y")) (call1 "ADD1" (call2 "PLUS" (call1 "SUB1" (call1 "ADD1" (variable "X"))) (variable "Y")))))) ∷ []

pub sum_of_add1 : Derivable [] (clause sum_of_add1_clause)
unfolding symbols_of number_of
sum_of_add1 = everywhere (add1_is_not_zero_clause ∷ []) sum_of_add1_log sum_of_add1_clause refl (add1_is_not_zero, tt) refl

pub sum_of_add1_at : (h : History) (x y : Term) → IsTerm (symbols_of h) x → IsTerm (symbols_of h) y → Derivable h (clause ((call1 "NUMBERP" x) ∷ [])) → Derivable h (clause ((call2 "EQUAL" (call2 "PLUS" (call1 "ADD1" x) y) (call1 "ADD1" (call2 "PLUS" x y))) ∷ []))
sum_of_add1_at h x y ox oy d1 =
    by_law h ((call1 "NUMBERP" (variable "X")) ∷ []) (call2 "EQUAL" (call2 "PLUS" (call1 "ADD1" (variable "X")) (variable "Y")) (call1 "ADD1" (call2 "PLUS" (variable "X") (variable "Y")))) ((codes "X", x) ∷ (codes "Y", y) ∷ []) (grown sum_of_add1_clause sum_of_add1 h) (d1, tt) ((equal_symbol h, ((plus_symbol h, (add1_symbol h, ox)), oy)), (add1_symbol h, ((plus_symbol h, ox), oy)))

-- (EQUAL (PLUS (FIX X) Y) (PLUS X Y))
abbrev sum_of_fix_log : List LogLine
sum_of_fix_log =
    Ruled (Reflexive (call1 "FIX" (variable "Y")))
    ∷ Ruled (Replace 5 1 (2 ∷ []) (call2 "PLUS" (variable "X") (variable "Y")) Backwards)
    ∷ Ruled (Cut 4 6 (call2 "EQUAL" (call2 "PLUS" (variable "X") (variable "Y")) (call1 "FIX" (variable "Y"))))
    ∷ Ruled (Instance 4 ((codes "X", (call0 "ZERO")) ∷ []))
    ∷ Ruled (Cut 1 8 (call1 "ZEROP" (call0 "ZERO")))
    ∷ Ruled (Replace 7 2 (1 ∷ []) (call2 "PLUS" (call0 "ZERO") (variable "Y")) Backwards)
    ∷ Ruled (Cut 9 10 (call2 "EQUAL" (call2 "PLUS" (call0 "ZERO") (variable "Y")) (call1 "FIX" (variable "Y"))))
    ∷ Ruled (Replace 11 2 (1 ∷ 1 ∷ []) (call1 "FIX" (variable "X")) Backwards)
    ∷ Ruled (Cut 2 12 (call2 "EQUAL" (call1 "FIX" (variable "X")) (call0 "ZERO")))
    ∷ Ruled (Reflexive (call2 "PLUS" (variable "X") (variable "Y")))
    ∷ Ruled (Replace 14 1 (1 ∷ 1 ∷ []) (call1 "FIX" (variable "X")) Backwards)
    ∷ Ruled (Cut 3 15 (call2 "EQUAL" (call1 "FIX" (variable "X")) (variable "X")))
    ∷ Ruled (Cut 16 13 (call1 "ZEROP" (variable "X"))) ∷ []

pub sum_of_fix : Derivable [] (clause sum_of_fix_clause)
unfolding symbols_of number_of
sum_of_fix = everywhere (zero_is_zero_clause ∷ fix_of_zero_clause ∷ fix_of_positive_clause ∷ sum_at_zero_clause ∷ []) sum_of_fix_log sum_of_fix_clause refl (zero_is_zero, (fix_of_zero, (fix_of_positive, (sum_at_zero, tt)))) refl

pub sum_of_fix_at : (h : History) (x y : Term) → IsTerm (symbols_of h) x → IsTerm (symbols_of h) y → Derivable h (clause ((call2 "EQUAL" (call2 "PLUS" (call1 "FIX" x) y) (call2 "PLUS" x y)) ∷ []))
sum_of_fix_at h x y ox oy =
    by_law h [] (call2 "EQUAL" (call2 "PLUS" (call1 "FIX" (variable "X")) (variable "Y")) (call2 "PLUS" (variable "X") (variable "Y"))) ((codes "X", x) ∷ (codes "Y", y) ∷ []) (grown sum_of_fix_clause sum_of_fix h) tt ((equal_symbol h, ((plus_symbol h, (fix_symbol h, ox)), oy)), ((plus_symbol h, ox), oy))

-- (EQUAL (PLUS (PLUS X Y) Z) (PLUS X (PLUS Y Z)))
abbrev sum_associates_log : List LogLine
sum_associates_log =
    Ruled (Taut ((call1 "NOT" (call1 "ZEROP" (variable "X"))) ∷ (call1 "NOT" (call1 "NOT" (call1 "ZEROP" (variable "X")))) ∷ []))
    ∷ Ruled (Instance 2 ((codes "X", (call2 "PLUS" (variable "X") (variable "Y"))) ∷ []))
    ∷ Ruled (Cut 1 10 (call1 "NUMBERP" (call2 "PLUS" (variable "X") (variable "Y"))))
    ∷ Ruled (Instance 7 ((codes "X", (call2 "PLUS" (variable "X") (variable "Y"))) ∷ (codes "Y", (variable "Z")) ∷ []))
    ∷ Ruled (Cut 1 12 (call1 "NUMBERP" (call2 "PLUS" (variable "X") (variable "Y"))))
    ∷ Ruled (Instance 8 ((codes "X", (variable "Y")) ∷ (codes "Y", (variable "Z")) ∷ []))
    ∷ Ruled (Instance 5 ((codes "Y", (call2 "PLUS" (variable "Y") (variable "Z"))) ∷ []))
    ∷ Ruled (Instance 11 ((codes "X", (variable "Y")) ∷ (codes "Y", (variable "Z")) ∷ []))
    ∷ Ruled (Reflexive (call2 "PLUS" (variable "Y") (variable "Z")))
    ∷ Ruled (Replace 17 1 (2 ∷ []) (call1 "FIX" (call2 "PLUS" (variable "Y") (variable "Z"))) Backwards)
    ∷ Ruled (Cut 16 18 (call2 "EQUAL" (call1 "FIX" (call2 "PLUS" (variable "Y") (variable "Z"))) (call2 "PLUS" (variable "Y") (variable "Z"))))
    ∷ Ruled (Replace 19 1 (2 ∷ []) (call2 "PLUS" (variable "X") (call2 "PLUS" (variable "Y") (variable "Z"))) Backwards)
    ∷ Ruled (Cut 15 20 (call2 "EQUAL" (call2 "PLUS" (variable "X") (call2 "PLUS" (variable "Y") (variable "Z"))) (call1 "FIX" (call2 "PLUS" (variable "Y") (variable "Z")))))
    ∷ Ruled (Replace 21 2 (1 ∷ []) (call2 "PLUS" (call1 "FIX" (variable "Y")) (variable "Z")) Backwards)
    ∷ Ruled (Cut 14 22 (call2 "EQUAL" (call2 "PLUS" (call1 "FIX" (variable "Y")) (variable "Z")) (call2 "PLUS" (variable "Y") (variable "Z"))))
    ∷ Ruled (Replace 23 2 (1 ∷ 1 ∷ []) (call2 "PLUS" (variable "X") (variable "Y")) Backwards)
    ∷ Ruled (Cut 5 24 (call2 "EQUAL" (call2 "PLUS" (variable "X") (variable "Y")) (call1 "FIX" (variable "Y"))))
    ∷ Ruled (Instance 13 ((codes "X", (call1 "SUB1" (variable "X"))) ∷ []))
    ∷ Ruled (Instance 6 ((codes "Y", (call2 "PLUS" (variable "Y") (variable "Z"))) ∷ []))
    ∷ Ruled (Reflexive (call1 "ADD1" (call2 "PLUS" (call1 "SUB1" (variable "X")) (call2 "PLUS" (variable "Y") (variable "Z")))))
    ∷ Ruled (Replace 28 1 (2 ∷ []) (call2 "PLUS" (variable "X") (call2 "PLUS" (variable "Y") (variable "Z"))) Backwards)
    ∷ Ruled (Cut 27 29 (call2 "EQUAL" (call2 "PLUS" (variable "X") (call2 "PLUS" (variable "Y") (variable "Z"))) (call1 "ADD1" (call2 "PLUS" (call1 "SUB1" (variable "X")) (call2 "PLUS" (variable "Y") (variable "Z"))))))
    ∷ Ruled (Replace 30 2 (1 ∷ 1 ∷ []) (call2 "PLUS" (call2 "PLUS" (call1 "SUB1" (variable "X")) (variable "Y")) (variable "Z")) Backwards)
    ∷ Ruled (Replace 31 2 (1 ∷ []) (call2 "PLUS" (call1 "ADD1" (call2 "PLUS" (call1 "SUB1" (variable "X")) (variable "Y"))) (variable "Z")) Backwards)
    ∷ Ruled (Cut 26 32 (call2 "EQUAL" (call2 "PLUS" (call1 "ADD1" (call2 "PLUS" (call1 "SUB1" (variable "X")) (variable "Y"))) (variable "Z")) (call1 "ADD1" (call2 "PLUS" (call2 "PLUS" (call1 "SUB1" (variable "X")) (variable "Y")) (variable "Z")))))
    ∷ Ruled (Replace 33 2 (1 ∷ 1 ∷ []) (call2 "PLUS" (variable "X") (variable "Y")) Backwards)
    ∷ Ruled (Cut 6 34 (call2 "EQUAL" (call2 "PLUS" (variable "X") (variable "Y")) (call1 "ADD1" (call2 "PLUS" (call1 "SUB1" (variable "X")) (variable "Y")))))
    ∷ Ruled (Cut 35 9 (call1 "ZEROP" (variable "X")))
    ∷ Ruled (Induct (call2 "EQUAL" (call2 "PLUS" (call2 "PLUS" (variable "X") (variable "Y")) (variable "Z")) (call2 "PLUS" (variable "X") (call2 "PLUS" (variable "Y") (variable "Z")))) (call1 "COUNT" (variable "X")) 3 25 (record { test = (call1 "NOT" (call1 "ZEROP" (variable "X"))); step = 36; hypotheses = (record { line = 4; pairs = ((codes "X", (call1 "SUB1" (variable "X"))) ∷ []) } ∷ []) } ∷ [])) ∷ []

pub sum_associates : Derivable [] (clause sum_associates_clause)
unfolding symbols_of number_of
sum_associates = everywhere (sum_is_number_clause ∷ fix_of_number_clause ∷ size_is_ordinal_clause ∷ size_falls_clause ∷ sum_at_zero_clause ∷ sum_at_positive_clause ∷ sum_of_add1_clause ∷ sum_of_fix_clause ∷ []) sum_associates_log sum_associates_clause refl (sum_is_number, (fix_of_number, (size_is_ordinal, (size_falls, (sum_at_zero, (sum_at_positive, (sum_of_add1, (sum_of_fix, tt)))))))) refl

pub sum_associates_at : (h : History) (x y z : Term) → IsTerm (symbols_of h) x → IsTerm (symbols_of h) y → IsTerm (symbols_of h) z → Derivable h (clause ((call2 "EQUAL" (call2 "PLUS" (call2 "PLUS" x y) z) (call2 "PLUS" x (call2 "PLUS" y z))) ∷ []))
sum_associates_at h x y z ox oy oz =
    by_law h [] (call2 "EQUAL" (call2 "PLUS" (call2 "PLUS" (variable "X") (variable "Y")) (variable "Z")) (call2 "PLUS" (variable "X") (call2 "PLUS" (variable "Y") (variable "Z")))) ((codes "X", x) ∷ (codes "Y", y) ∷ (codes "Z", z) ∷ []) (grown sum_associates_clause sum_associates h) tt ((equal_symbol h, ((plus_symbol h, ((plus_symbol h, ox), oy)), oz)), ((plus_symbol h, ox), ((plus_symbol h, oy), oz)))

-- (NOT (NUMBERP B)), (EQUAL (PLUS 0 B) B)
abbrev sum_of_zero_and_number_log : List LogLine
sum_of_zero_and_number_log =
    Ruled (Instance 3 ((codes "X", (call0 "ZERO")) ∷ []))
    ∷ Ruled (Cut 1 4 (call1 "ZEROP" (call0 "ZERO")))
    ∷ Ruled (Instance 5 ((codes "Y", (variable "B")) ∷ []))
    ∷ Ruled (Instance 2 ((codes "X", (variable "B")) ∷ []))
    ∷ Ruled (Reflexive (variable "B"))
    ∷ Ruled (Replace 8 1 (1 ∷ []) (call1 "FIX" (variable "B")) Backwards)
    ∷ Ruled (Cut 7 9 (call2 "EQUAL" (call1 "FIX" (variable "B")) (variable "B")))
    ∷ Ruled (Replace 10 2 (1 ∷ []) (call2 "PLUS" (call0 "ZERO") (variable "B")) Backwards)
    ∷ Ruled (Cut 6 11 (call2 "EQUAL" (call2 "PLUS" (call0 "ZERO") (variable "B")) (call1 "FIX" (variable "B")))) ∷ []

pub sum_of_zero_and_number : Derivable [] (clause sum_of_zero_and_number_clause)
unfolding symbols_of number_of
sum_of_zero_and_number = everywhere (zero_is_zero_clause ∷ fix_of_number_clause ∷ sum_at_zero_clause ∷ []) sum_of_zero_and_number_log sum_of_zero_and_number_clause refl (zero_is_zero, (fix_of_number, (sum_at_zero, tt))) refl

pub sum_of_zero_and_number_at : (h : History) (b : Term) → IsTerm (symbols_of h) b → Derivable h (clause ((call1 "NUMBERP" b) ∷ [])) → Derivable h (clause ((call2 "EQUAL" (call2 "PLUS" (call0 "ZERO") b) b) ∷ []))
sum_of_zero_and_number_at h b ob d1 =
    by_law h ((call1 "NUMBERP" (variable "B")) ∷ []) (call2 "EQUAL" (call2 "PLUS" (call0 "ZERO") (variable "B")) (variable "B")) ((codes "B", b) ∷ []) (grown sum_of_zero_and_number_clause sum_of_zero_and_number h) (d1, tt) ((equal_symbol h, ((plus_symbol h, (zero_symbol h)), ob)), ob)

-- (NOT (NUMBERP A)), (NOT (EQUAL (PLUS A B) C)), (EQUAL (PLUS (ADD1 A) B) (ADD1 C))
abbrev sum_step_log : List LogLine
sum_step_log =
    Ruled (Instance 1 ((codes "X", (variable "A")) ∷ (codes "Y", (variable "B")) ∷ []))
    ∷ Ruled (Reflexive (call1 "ADD1" (variable "C")))
    ∷ Ruled (Replace 3 1 (1 ∷ 1 ∷ []) (call2 "PLUS" (variable "A") (variable "B")) Backwards)
    ∷ Ruled (Replace 4 1 (1 ∷ []) (call2 "PLUS" (call1 "ADD1" (variable "A")) (variable "B")) Backwards)
    ∷ Ruled (Cut 2 5 (call2 "EQUAL" (call2 "PLUS" (call1 "ADD1" (variable "A")) (variable "B")) (call1 "ADD1" (call2 "PLUS" (variable "A") (variable "B")))))
    ∷ Ruled (Taut ((call1 "NOT" (call2 "EQUAL" (call2 "PLUS" (call1 "ADD1" (variable "A")) (variable "B")) (call1 "ADD1" (variable "C")))) ∷ (call2 "EQUAL" (call2 "PLUS" (call1 "ADD1" (variable "A")) (variable "B")) (call1 "ADD1" (variable "C"))) ∷ []))
    ∷ Ruled (Cut 6 7 (call2 "EQUAL" (call2 "PLUS" (call1 "ADD1" (variable "A")) (variable "B")) (call1 "ADD1" (variable "C")))) ∷ []

pub sum_step : Derivable [] (clause sum_step_clause)
unfolding symbols_of number_of
sum_step = everywhere (sum_of_add1_clause ∷ []) sum_step_log sum_step_clause refl (sum_of_add1, tt) refl

pub sum_step_at : (h : History) (a b c : Term) → IsTerm (symbols_of h) a → IsTerm (symbols_of h) b → IsTerm (symbols_of h) c → Derivable h (clause ((call1 "NUMBERP" a) ∷ [])) → Derivable h (clause ((call2 "EQUAL" (call2 "PLUS" a b) c) ∷ [])) → Derivable h (clause ((call2 "EQUAL" (call2 "PLUS" (call1 "ADD1" a) b) (call1 "ADD1" c)) ∷ []))
sum_step_at h a b c oa ob oc d1 d2 =
    by_law h ((call1 "NUMBERP" (variable "A")) ∷ (call2 "EQUAL" (call2 "PLUS" (variable "A") (variable "B")) (variable "C")) ∷ []) (call2 "EQUAL" (call2 "PLUS" (call1 "ADD1" (variable "A")) (variable "B")) (call1 "ADD1" (variable "C"))) ((codes "A", a) ∷ (codes "B", b) ∷ (codes "C", c) ∷ []) (grown sum_step_clause sum_step h) (d1, (d2, tt)) ((equal_symbol h, ((plus_symbol h, (add1_symbol h, oa)), ob)), (add1_symbol h, oc))

pub laws_of_plus_order_hold : AreDerivable laws_of_plus_order
laws_of_plus_order_hold h = (grown sum_with_no_positive_clause sum_with_no_positive h, (grown sum_with_positive_clause sum_with_positive h, (grown sum_commutes_clause sum_commutes h, (grown sum_of_add1_clause sum_of_add1 h, (grown sum_of_fix_clause sum_of_fix h, (grown sum_associates_clause sum_associates h, (grown sum_of_zero_and_number_clause sum_of_zero_and_number h, (grown sum_step_clause sum_step h, tt))))))))
