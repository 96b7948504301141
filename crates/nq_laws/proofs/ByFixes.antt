-- Laws of functions of numbers, by the FIX of their arguments in the ground history, each by a log over earlier ones, and at terms of any history.
use Rattle.std.proofs.Common.{List, [], ◌∷◌, refl}
use Rattle.std.specs.Prelude.{codes}
use Rattle.nq_logic.specs.Terms.{Term, IsTerm}
use Rattle.nq_logic.specs.Words.{variable, call0, call1, call2}
use Rattle.nq_logic.specs.Histories.{History}
use Rattle.nq_logic.specs.Ground.{symbols_of}
use Rattle.nq_logic.specs.Numerals.{number_of}
use Rattle.nq_logic.specs.Formulas.{clause}
use Rattle.nq_logic.specs.Derivations.{Derivable}
use Rattle.nq_proof.specs.Rules.{Taut, Cut, Instance, Reflexive, Replace, Induct, Forwards, Backwards}
use Rattle.nq_proof.specs.Logs.{LogLine, Ruled}
use Rattle.nq_proof.proofs.SoundLogs.{everywhere, grown}
use Rattle.nq_proof.proofs.ByLaw.{by_law}
use Rattle.nq_laws.specs.Laws.{AreDerivable}
use Rattle.nq_logic.proofs.Symbols.{difference_symbol, equal_symbol, fix_symbol, lessp_symbol, plus_symbol, quotient_symbol, remainder_symbol, times_symbol}
use Rattle.nq_laws.specs.ByFixes.{sum_of_fixes_clause, product_with_fix_clause, product_of_fixes_clause, sum_by_fixes_clause, product_by_fixes_clause, difference_by_fixes_clause, quotient_by_fixes_clause, remainder_by_fixes_clause, less_by_fixes_clause, laws_of_by_fixes}
use Rattle.nq_laws.specs.Zero.{fix_of_zero_clause, fix_of_positive_clause}
use Rattle.nq_laws.proofs.Zero.{fix_of_zero, fix_of_positive}
use Rattle.nq_laws.specs.Ordinals.{size_is_ordinal_clause, size_falls_clause}
use Rattle.nq_laws.proofs.Ordinals.{size_is_ordinal, size_falls}
use Rattle.nq_laws.specs.Plus.{sum_with_fix_clause}
use Rattle.nq_laws.proofs.Plus.{sum_with_fix}
use Rattle.nq_laws.specs.PlusOrder.{sum_of_fix_clause}
use Rattle.nq_laws.proofs.PlusOrder.{sum_of_fix}
use Rattle.nq_laws.specs.Less.{less_of_fixes_clause}
use Rattle.nq_laws.proofs.Less.{less_of_fixes}
use Rattle.nq_laws.specs.Times.{product_at_zero_clause, product_at_positive_clause, product_of_zero_clause}
use Rattle.nq_laws.proofs.Times.{product_at_zero, product_at_positive, product_of_zero}
use Rattle.nq_laws.specs.Fixes.{difference_of_fixes_clause, quotient_of_fixes_clause, remainder_of_fixes_clause}
use Rattle.nq_laws.proofs.Fixes.{difference_of_fixes, quotient_of_fixes, remainder_of_fixes}

-- (EQUAL (PLUS (FIX X) (FIX Y)) (PLUS X Y))
abbrev sum_of_fixes_log : List LogLine
sum_of_fixes_log =
    Ruled (Instance 2 ((codes "Y", (call1 "FIX" (variable "Y"))) ∷ []))
    ∷ Ruled (Replace 3 1 (2 ∷ []) (call2 "PLUS" (variable "X") (variable "Y")) Forwards)
    ∷ Ruled (Cut 1 4 (call2 "EQUAL" (call2 "PLUS" (variable "X") (call1 "FIX" (variable "Y"))) (call2 "PLUS" (variable "X") (variable "Y")))) ∷ []

pub sum_of_fixes : Derivable [] (clause sum_of_fixes_clause)
unfolding symbols_of number_of
sum_of_fixes = everywhere (sum_with_fix_clause ∷ sum_of_fix_clause ∷ []) sum_of_fixes_log sum_of_fixes_clause refl (sum_with_fix, (sum_of_fix, tt)) refl

pub sum_of_fixes_at : (h : History) (x y : Term) → IsTerm (symbols_of h) x → IsTerm (symbols_of h) y → Derivable h (clause ((call2 "EQUAL" (call2 "PLUS" (call1 "FIX" x) (call1 "FIX" y)) (call2 "PLUS" x y)) ∷ []))
sum_of_fixes_at h x y ox oy =
    by_law h [] (call2 "EQUAL" (call2 "PLUS" (call1 "FIX" (variable "X")) (call1 "FIX" (variable "Y"))) (call2 "PLUS" (variable "X") (variable "Y"))) ((codes "X", x) ∷ (codes "Y", y) ∷ []) (grown sum_of_fixes_clause sum_of_fixes h) tt ((equal_symbol h, ((plus_symbol h, (fix_symbol h, ox)), (fix_symbol h, oy))), ((plus_symbol h, ox), oy))

-- (EQUAL (TIMES X (FIX Y)) (TIMES X Y))
abbrev product_with_fix_log : List LogLine
product_with_fix_log =
    Ruled (Reflexive (call0 "ZERO"))
    ∷ Ruled (Taut ((call1 "NOT" (call1 "ZEROP" (variable "X"))) ∷ (call1 "NOT" (call1 "NOT" (call1 "ZEROP" (variable "X")))) ∷ []))
    ∷ Ruled (Reflexive (call2 "PLUS" (variable "Y") (call2 "TIMES" (call1 "SUB1" (variable "X")) (variable "Y"))))
    ∷ Ruled (Instance 4 ((codes "Y", (call1 "FIX" (variable "Y"))) ∷ []))
    ∷ Ruled (Replace 6 1 (2 ∷ []) (call2 "TIMES" (variable "X") (variable "Y")) Backwards)
    ∷ Ruled (Cut 4 10 (call2 "EQUAL" (call2 "TIMES" (variable "X") (variable "Y")) (call0 "ZERO")))
    ∷ Ruled (Replace 11 2 (1 ∷ []) (call2 "TIMES" (variable "X") (call1 "FIX" (variable "Y"))) Backwards)
    ∷ Ruled (Cut 9 12 (call2 "EQUAL" (call2 "TIMES" (variable "X") (call1 "FIX" (variable "Y"))) (call0 "ZERO")))
    ∷ Ruled (Instance 5 ((codes "Y", (call1 "FIX" (variable "Y"))) ∷ []))
    ∷ Ruled (Instance 3 ((codes "X", (variable "Y")) ∷ (codes "Y", (call2 "TIMES" (call1 "SUB1" (variable "X")) (variable "Y"))) ∷ []))
    ∷ Ruled (Replace 8 1 (2 ∷ []) (call2 "TIMES" (variable "X") (variable "Y")) Backwards)
    ∷ Ruled (Cut 5 16 (call2 "EQUAL" (call2 "TIMES" (variable "X") (variable "Y")) (call2 "PLUS" (variable "Y") (call2 "TIMES" (call1 "SUB1" (variable "X")) (variable "Y")))))
    ∷ Ruled (Replace 17 2 (1 ∷ []) (call2 "PLUS" (call1 "FIX" (variable "Y")) (call2 "TIMES" (call1 "SUB1" (variable "X")) (variable "Y"))) Backwards)
    ∷ Ruled (Cut 15 18 (call2 "EQUAL" (call2 "PLUS" (call1 "FIX" (variable "Y")) (call2 "TIMES" (call1 "SUB1" (variable "X")) (variable "Y"))) (call2 "PLUS" (variable "Y") (call2 "TIMES" (call1 "SUB1" (variable "X")) (variable "Y")))))
    ∷ Ruled (Replace 19 2 (1 ∷ 2 ∷ []) (call2 "TIMES" (call1 "SUB1" (variable "X")) (call1 "FIX" (variable "Y"))) Backwards)
    ∷ Ruled (Replace 20 2 (1 ∷ []) (call2 "TIMES" (variable "X") (call1 "FIX" (variable "Y"))) Backwards)
    ∷ Ruled (Cut 14 21 (call2 "EQUAL" (call2 "TIMES" (variable "X") (call1 "FIX" (variable "Y"))) (call2 "PLUS" (call1 "FIX" (variable "Y")) (call2 "TIMES" (call1 "SUB1" (variable "X")) (call1 "FIX" (variable "Y"))))))
    ∷ Ruled (Cut 22 7 (call1 "ZEROP" (variable "X")))
    ∷ Ruled (Induct (call2 "EQUAL" (call2 "TIMES" (variable "X") (call1 "FIX" (variable "Y"))) (call2 "TIMES" (variable "X") (variable "Y"))) (call1 "COUNT" (variable "X")) 1 13 (record { test = (call1 "NOT" (call1 "ZEROP" (variable "X"))); step = 23; hypotheses = (record { line = 2; pairs = ((codes "X", (call1 "SUB1" (variable "X"))) ∷ []) } ∷ []) } ∷ [])) ∷ []

pub product_with_fix : Derivable [] (clause product_with_fix_clause)
unfolding symbols_of number_of
product_with_fix = everywhere (size_is_ordinal_clause ∷ size_falls_clause ∷ sum_of_fix_clause ∷ product_at_zero_clause ∷ product_at_positive_clause ∷ []) product_with_fix_log product_with_fix_clause refl (size_is_ordinal, (size_falls, (sum_of_fix, (product_at_zero, (product_at_positive, tt))))) refl

pub product_with_fix_at : (h : History) (x y : Term) → IsTerm (symbols_of h) x → IsTerm (symbols_of h) y → Derivable h (clause ((call2 "EQUAL" (call2 "TIMES" x (call1 "FIX" y)) (call2 "TIMES" x y)) ∷ []))
product_with_fix_at h x y ox oy =
    by_law h [] (call2 "EQUAL" (call2 "TIMES" (variable "X") (call1 "FIX" (variable "Y"))) (call2 "TIMES" (variable "X") (variable "Y"))) ((codes "X", x) ∷ (codes "Y", y) ∷ []) (grown product_with_fix_clause product_with_fix h) tt ((equal_symbol h, ((times_symbol h, ox), (fix_symbol h, oy))), ((times_symbol h, ox), oy))

-- (EQUAL (TIMES (FIX X) (FIX Y)) (TIMES X Y))
abbrev product_of_fixes_log : List LogLine
product_of_fixes_log =
    Ruled (Reflexive (call0 "ZERO"))
    ∷ Ruled (Instance 1 ((codes "X", (variable "Y")) ∷ []))
    ∷ Ruled (Instance 2 ((codes "X", (variable "Y")) ∷ []))
    ∷ Ruled (Replace 6 1 (2 ∷ []) (call2 "TIMES" (variable "X") (variable "Y")) Backwards)
    ∷ Ruled (Cut 3 9 (call2 "EQUAL" (call2 "TIMES" (variable "X") (variable "Y")) (call0 "ZERO")))
    ∷ Ruled (Replace 5 1 (1 ∷ 2 ∷ []) (call0 "ZERO") Forwards)
    ∷ Ruled (Cut 7 11 (call2 "EQUAL" (call1 "FIX" (variable "Y")) (call0 "ZERO")))
    ∷ Ruled (Instance 4 ((codes "Y", (call0 "ZERO")) ∷ []))
    ∷ Ruled (Replace 10 2 (1 ∷ []) (call2 "TIMES" (call0 "ZERO") (call0 "ZERO")) Backwards)
    ∷ Ruled (Cut 13 14 (call2 "EQUAL" (call2 "TIMES" (call0 "ZERO") (call0 "ZERO")) (call0 "ZERO")))
    ∷ Ruled (Replace 15 2 (1 ∷ 2 ∷ []) (call1 "FIX" (variable "Y")) Backwards)
    ∷ Ruled (Cut 7 16 (call2 "EQUAL" (call1 "FIX" (variable "Y")) (call0 "ZERO")))
    ∷ Ruled (Replace 17 3 (1 ∷ 1 ∷ []) (call1 "FIX" (variable "X")) Backwards)
    ∷ Ruled (Cut 1 18 (call2 "EQUAL" (call1 "FIX" (variable "X")) (call0 "ZERO")))
    ∷ Ruled (Reflexive (call2 "TIMES" (variable "X") (variable "Y")))
    ∷ Ruled (Replace 20 1 (1 ∷ []) (call2 "TIMES" (variable "X") (call0 "ZERO")) Backwards)
    ∷ Ruled (Cut 12 21 (call2 "EQUAL" (call2 "TIMES" (variable "X") (call0 "ZERO")) (call2 "TIMES" (variable "X") (variable "Y"))))
    ∷ Ruled (Replace 22 2 (1 ∷ 2 ∷ []) (call1 "FIX" (variable "Y")) Backwards)
    ∷ Ruled (Cut 7 23 (call2 "EQUAL" (call1 "FIX" (variable "Y")) (call0 "ZERO")))
    ∷ Ruled (Replace 24 2 (1 ∷ 1 ∷ []) (call1 "FIX" (variable "X")) Backwards)
    ∷ Ruled (Cut 2 25 (call2 "EQUAL" (call1 "FIX" (variable "X")) (variable "X")))
    ∷ Ruled (Cut 26 19 (call1 "ZEROP" (variable "X")))
    ∷ Ruled (Replace 10 2 (1 ∷ []) (call2 "TIMES" (call0 "ZERO") (variable "Y")) Backwards)
    ∷ Ruled (Cut 4 28 (call2 "EQUAL" (call2 "TIMES" (call0 "ZERO") (variable "Y")) (call0 "ZERO")))
    ∷ Ruled (Replace 29 2 (1 ∷ 2 ∷ []) (call1 "FIX" (variable "Y")) Backwards)
    ∷ Ruled (Cut 8 30 (call2 "EQUAL" (call1 "FIX" (variable "Y")) (variable "Y")))
    ∷ Ruled (Replace 31 3 (1 ∷ 1 ∷ []) (call1 "FIX" (variable "X")) Backwards)
    ∷ Ruled (Cut 1 32 (call2 "EQUAL" (call1 "FIX" (variable "X")) (call0 "ZERO")))
    ∷ Ruled (Replace 20 1 (1 ∷ 2 ∷ []) (call1 "FIX" (variable "Y")) Backwards)
    ∷ Ruled (Cut 8 34 (call2 "EQUAL" (call1 "FIX" (variable "Y")) (variable "Y")))
    ∷ Ruled (Replace 35 2 (1 ∷ 1 ∷ []) (call1 "FIX" (variable "X")) Backwards)
    ∷ Ruled (Cut 2 36 (call2 "EQUAL" (call1 "FIX" (variable "X")) (variable "X")))
    ∷ Ruled (Cut 37 33 (call1 "ZEROP" (variable "X")))
    ∷ Ruled (Cut 38 27 (call1 "ZEROP" (variable "Y"))) ∷ []

pub product_of_fixes : Derivable [] (clause product_of_fixes_clause)
unfolding symbols_of number_of
product_of_fixes = everywhere (fix_of_zero_clause ∷ fix_of_positive_clause ∷ product_at_zero_clause ∷ product_of_zero_clause ∷ product_with_fix_clause ∷ []) product_of_fixes_log product_of_fixes_clause refl (fix_of_zero, (fix_of_positive, (product_at_zero, (product_of_zero, (product_with_fix, tt))))) refl

pub product_of_fixes_at : (h : History) (x y : Term) → IsTerm (symbols_of h) x → IsTerm (symbols_of h) y → Derivable h (clause ((call2 "EQUAL" (call2 "TIMES" (call1 "FIX" x) (call1 "FIX" y)) (call2 "TIMES" x y)) ∷ []))
product_of_fixes_at h x y ox oy =
    by_law h [] (call2 "EQUAL" (call2 "TIMES" (call1 "FIX" (variable "X")) (call1 "FIX" (variable "Y"))) (call2 "TIMES" (variable "X") (variable "Y"))) ((codes "X", x) ∷ (codes "Y", y) ∷ []) (grown product_of_fixes_clause product_of_fixes h) tt ((equal_symbol h, ((times_symbol h, (fix_symbol h, ox)), (fix_symbol h, oy))), ((times_symbol h, ox), oy))

-- (NOT (EQUAL (FIX X) A)), (NOT (EQUAL (FIX Y) B)), (NOT (EQUAL (PLUS A B) C)), (EQUAL (PLUS X Y) C)
abbrev sum_by_fixes_log : List LogLine
sum_by_fixes_log =
    Ruled (Reflexive (variable "C"))
    ∷ Ruled (Replace 1 1 (1 ∷ 1 ∷ []) (variable "A") Forwards)
    ∷ Ruled (Replace 3 1 (1 ∷ 2 ∷ []) (variable "B") Forwards)
    ∷ Ruled (Replace 4 1 (1 ∷ []) (variable "C") Forwards)
    ∷ Ruled (Replace 2 1 (1 ∷ []) (call2 "PLUS" (variable "X") (variable "Y")) Forwards)
    ∷ Ruled (Cut 5 6 (call2 "EQUAL" (variable "C") (call2 "PLUS" (variable "X") (variable "Y")))) ∷ []

pub sum_by_fixes : Derivable [] (clause sum_by_fixes_clause)
unfolding symbols_of number_of
sum_by_fixes = everywhere (sum_of_fixes_clause ∷ []) sum_by_fixes_log sum_by_fixes_clause refl (sum_of_fixes, tt) refl

pub sum_by_fixes_at : (h : History) (a b c x y : Term) → IsTerm (symbols_of h) a → IsTerm (symbols_of h) b → IsTerm (symbols_of h) c → IsTerm (symbols_of h) x → IsTerm (symbols_of h) y → Derivable h (clause ((call2 "EQUAL" (call1 "FIX" x) a) ∷ [])) → Derivable h (clause ((call2 "EQUAL" (call1 "FIX" y) b) ∷ [])) → Derivable h (clause ((call2 "EQUAL" (call2 "PLUS" a b) c) ∷ [])) → Derivable h (clause ((call2 "EQUAL" (call2 "PLUS" x y) c) ∷ []))
sum_by_fixes_at h a b c x y oa ob oc ox oy d1 d2 d3 =
    by_law h ((call2 "EQUAL" (call1 "FIX" (variable "X")) (variable "A")) ∷ (call2 "EQUAL" (call1 "FIX" (variable "Y")) (variable "B")) ∷ (call2 "EQUAL" (call2 "PLUS" (variable "A") (variable "B")) (variable "C")) ∷ []) (call2 "EQUAL" (call2 "PLUS" (variable "X") (variable "Y")) (variable "C")) ((codes "A", a) ∷ (codes "B", b) ∷ (codes "C", c) ∷ (codes "X", x) ∷ (codes "Y", y) ∷ []) (grown sum_by_fixes_clause sum_by_fixes h) (d1, (d2, (d3, tt))) ((equal_symbol h, ((plus_symbol h, ox), oy)), oc)

-- (NOT (EQUAL (FIX X) A)), (NOT (EQUAL (FIX Y) B)), (NOT (EQUAL (TIMES A B) C)), (EQUAL (TIMES X Y) C)
abbrev product_by_fixes_log : List LogLine
product_by_fixes_log =
    Ruled (Reflexive (variable "C"))
    ∷ Ruled (Replace 1 1 (1 ∷ 1 ∷ []) (variable "A") Forwards)
    ∷ Ruled (Replace 3 1 (1 ∷ 2 ∷ []) (variable "B") Forwards)
    ∷ Ruled (Replace 4 1 (1 ∷ []) (variable "C") Forwards)
    ∷ Ruled (Replace 2 1 (1 ∷ []) (call2 "TIMES" (variable "X") (variable "Y")) Forwards)
    ∷ Ruled (Cut 5 6 (call2 "EQUAL" (variable "C") (call2 "TIMES" (variable "X") (variable "Y")))) ∷ []

pub product_by_fixes : Derivable [] (clause product_by_fixes_clause)
unfolding symbols_of number_of
product_by_fixes = everywhere (product_of_fixes_clause ∷ []) product_by_fixes_log product_by_fixes_clause refl (product_of_fixes, tt) refl

pub product_by_fixes_at : (h : History) (a b c x y : Term) → IsTerm (symbols_of h) a → IsTerm (symbols_of h) b → IsTerm (symbols_of h) c → IsTerm (symbols_of h) x → IsTerm (symbols_of h) y → Derivable h (clause ((call2 "EQUAL" (call1 "FIX" x) a) ∷ [])) → Derivable h (clause ((call2 "EQUAL" (call1 "FIX" y) b) ∷ [])) → Derivable h (clause ((call2 "EQUAL" (call2 "TIMES" a b) c) ∷ [])) → Derivable h (clause ((call2 "EQUAL" (call2 "TIMES" x y) c) ∷ []))
product_by_fixes_at h a b c x y oa ob oc ox oy d1 d2 d3 =
    by_law h ((call2 "EQUAL" (call1 "FIX" (variable "X")) (variable "A")) ∷ (call2 "EQUAL" (call1 "FIX" (variable "Y")) (variable "B")) ∷ (call2 "EQUAL" (call2 "TIMES" (variable "A") (variable "B")) (variable "C")) ∷ []) (call2 "EQUAL" (call2 "TIMES" (variable "X") (variable "Y")) (variable "C")) ((codes "A", a) ∷ (codes "B", b) ∷ (codes "C", c) ∷ (codes "X", x) ∷ (codes "Y", y) ∷ []) (grown product_by_fixes_clause product_by_fixes h) (d1, (d2, (d3, tt))) ((equal_symbol h, ((times_symbol h, ox), oy)), oc)

-- (NOT (EQUAL (FIX X) A)), (NOT (EQUAL (FIX Y) B)), (NOT (EQUAL (DIFFERENCE A B) C)), (EQUAL (DIFFERENCE X Y) C)
abbrev difference_by_fixes_log : List LogLine
difference_by_fixes_log =
    Ruled (Reflexive (variable "C"))
    ∷ Ruled (Replace 1 1 (1 ∷ 1 ∷ []) (variable "A") Forwards)
    ∷ Ruled (Replace 3 1 (1 ∷ 2 ∷ []) (variable "B") Forwards)
    ∷ Ruled (Replace 4 1 (1 ∷ []) (variable "C") Forwards)
    ∷ Ruled (Replace 2 1 (1 ∷ []) (call2 "DIFFERENCE" (variable "X") (variable "Y")) Forwards)
    ∷ Ruled (Cut 5 6 (call2 "EQUAL" (variable "C") (call2 "DIFFERENCE" (variable "X") (variable "Y")))) ∷ []

pub difference_by_fixes : Derivable [] (clause difference_by_fixes_clause)
unfolding symbols_of number_of
difference_by_fixes = everywhere (difference_of_fixes_clause ∷ []) difference_by_fixes_log difference_by_fixes_clause refl (difference_of_fixes, tt) refl

pub difference_by_fixes_at : (h : History) (a b c x y : Term) → IsTerm (symbols_of h) a → IsTerm (symbols_of h) b → IsTerm (symbols_of h) c → IsTerm (symbols_of h) x → IsTerm (symbols_of h) y → Derivable h (clause ((call2 "EQUAL" (call1 "FIX" x) a) ∷ [])) → Derivable h (clause ((call2 "EQUAL" (call1 "FIX" y) b) ∷ [])) → Derivable h (clause ((call2 "EQUAL" (call2 "DIFFERENCE" a b) c) ∷ [])) → Derivable h (clause ((call2 "EQUAL" (call2 "DIFFERENCE" x y) c) ∷ []))
difference_by_fixes_at h a b c x y oa ob oc ox oy d1 d2 d3 =
    by_law h ((call2 "EQUAL" (call1 "FIX" (variable "X")) (variable "A")) ∷ (call2 "EQUAL" (call1 "FIX" (variable "Y")) (variable "B")) ∷ (call2 "EQUAL" (call2 "DIFFERENCE" (variable "A") (variable "B")) (variable "C")) ∷ []) (call2 "EQUAL" (call2 "DIFFERENCE" (variable "X") (variable "Y")) (variable "C")) ((codes "A", a) ∷ (codes "B", b) ∷ (codes "C", c) ∷ (codes "X", x) ∷ (codes "Y", y) ∷ []) (grown difference_by_fixes_clause difference_by_fixes h) (d1, (d2, (d3, tt))) ((equal_symbol h, ((difference_symbol h, ox), oy)), oc)

-- (NOT (EQUAL (FIX X) A)), (NOT (EQUAL (FIX Y) B)), (NOT (EQUAL (QUOTIENT A B) C)), (EQUAL (QUOTIENT X Y) C)
abbrev quotient_by_fixes_log : List LogLine
quotient_by_fixes_log =
    Ruled (Reflexive (variable "C"))
    ∷ Ruled (Replace 1 1 (1 ∷ 1 ∷ []) (variable "A") Forwards)
    ∷ Ruled (Replace 3 1 (1 ∷ 2 ∷ []) (variable "B") Forwards)
    ∷ Ruled (Replace 4 1 (1 ∷ []) (variable "C") Forwards)
    ∷ Ruled (Replace 2 1 (1 ∷ []) (call2 "QUOTIENT" (variable "X") (variable "Y")) Forwards)
    ∷ Ruled (Cut 5 6 (call2 "EQUAL" (variable "C") (call2 "QUOTIENT" (variable "X") (variable "Y")))) ∷ []

pub quotient_by_fixes : Derivable [] (clause quotient_by_fixes_clause)
unfolding symbols_of number_of
quotient_by_fixes = everywhere (quotient_of_fixes_clause ∷ []) quotient_by_fixes_log quotient_by_fixes_clause refl (quotient_of_fixes, tt) refl

pub quotient_by_fixes_at : (h : History) (a b c x y : Term) → IsTerm (symbols_of h) a → IsTerm (symbols_of h) b → IsTerm (symbols_of h) c → IsTerm (symbols_of h) x → IsTerm (symbols_of h) y → Derivable h (clause ((call2 "EQUAL" (call1 "FIX" x) a) ∷ [])) → Derivable h (clause ((call2 "EQUAL" (call1 "FIX" y) b) ∷ [])) → Derivable h (clause ((call2 "EQUAL" (call2 "QUOTIENT" a b) c) ∷ [])) → Derivable h (clause ((call2 "EQUAL" (call2 "QUOTIENT" x y) c) ∷ []))
quotient_by_fixes_at h a b c x y oa ob oc ox oy d1 d2 d3 =
    by_law h ((call2 "EQUAL" (call1 "FIX" (variable "X")) (variable "A")) ∷ (call2 "EQUAL" (call1 "FIX" (variable "Y")) (variable "B")) ∷ (call2 "EQUAL" (call2 "QUOTIENT" (variable "A") (variable "B")) (variable "C")) ∷ []) (call2 "EQUAL" (call2 "QUOTIENT" (variable "X") (variable "Y")) (variable "C")) ((codes "A", a) ∷ (codes "B", b) ∷ (codes "C", c) ∷ (codes "X", x) ∷ (codes "Y", y) ∷ []) (grown quotient_by_fixes_clause quotient_by_fixes h) (d1, (d2, (d3, tt))) ((equal_symbol h, ((quotient_symbol h, ox), oy)), oc)

-- (NOT (EQUAL (FIX X) A)), (NOT (EQUAL (FIX Y) B)), (NOT (EQUAL (REMAINDER A B) C)), (EQUAL (REMAINDER X Y) C)
abbrev remainder_by_fixes_log : List LogLine
remainder_by_fixes_log =
    Ruled (Reflexive (variable "C"))
    ∷ Ruled (Replace 1 1 (1 ∷ 1 ∷ []) (variable "A") Forwards)
    ∷ Ruled (Replace 3 1 (1 ∷ 2 ∷ []) (variable "B") Forwards)
    ∷ Ruled (Replace 4 1 (1 ∷ []) (variable "C") Forwards)
    ∷ Ruled (Replace 2 1 (1 ∷ []) (call2 "REMAINDER" (variable "X") (variable "Y")) Forwards)
    ∷ Ruled (Cut 5 6 (call2 "EQUAL" (variable "C") (call2 "REMAINDER" (variable "X") (variable "Y")))) ∷ []

pub remainder_by_fixes : Derivable [] (clause remainder_by_fixes_clause)
unfolding symbols_of number_of
remainder_by_fixes = everywhere (remainder_of_fixes_clause ∷ []) remainder_by_fixes_log remainder_by_fixes_clause refl (remainder_of_fixes, tt) refl

pub remainder_by_fixes_at : (h : History) (a b c x y : Term) → IsTerm (symbols_of h) a → IsTerm (symbols_of h) b → IsTerm (symbols_of h) c → IsTerm (symbols_of h) x → IsTerm (symbols_of h) y → Derivable h (clause ((call2 "EQUAL" (call1 "FIX" x) a) ∷ [])) → Derivable h (clause ((call2 "EQUAL" (call1 "FIX" y) b) ∷ [])) → Derivable h (clause ((call2 "EQUAL" (call2 "REMAINDER" a b) c) ∷ [])) → Derivable h (clause ((call2 "EQUAL" (call2 "REMAINDER" x y) c) ∷ []))
remainder_by_fixes_at h a b c x y oa ob oc ox oy d1 d2 d3 =
    by_law h ((call2 "EQUAL" (call1 "FIX" (variable "X")) (variable "A")) ∷ (call2 "EQUAL" (call1 "FIX" (variable "Y")) (variable "B")) ∷ (call2 "EQUAL" (call2 "REMAINDER" (variable "A") (variable "B")) (variable "C")) ∷ []) (call2 "EQUAL" (call2 "REMAINDER" (variable "X") (variable "Y")) (variable "C")) ((codes "A", a) ∷ (codes "B", b) ∷ (codes "C", c) ∷ (codes "X", x) ∷ (codes "Y", y) ∷ []) (grown remainder_by_fixes_clause remainder_by_fixes h) (d1, (d2, (d3, tt))) ((equal_symbol h, ((remainder_symbol h, ox), oy)), oc)

-- (NOT (EQUAL (FIX X) A)), (NOT (EQUAL (FIX Y) B)), (NOT (EQUAL (LESSP A B) C)), (EQUAL (LESSP X Y) C)
abbrev less_by_fixes_log : List LogLine
less_by_fixes_log =
    Ruled (Reflexive (variable "C"))
    ∷ Ruled (Replace 1 1 (1 ∷ 1 ∷ []) (variable "A") Forwards)
    ∷ Ruled (Replace 3 1 (1 ∷ 2 ∷ []) (variable "B") Forwards)
    ∷ Ruled (Replace 4 1 (1 ∷ []) (variable "C") Forwards)
    ∷ Ruled (Replace 2 1 (1 ∷ []) (call2 "LESSP" (variable "X") (variable "Y")) Forwards)
    ∷ Ruled (Cut 5 6 (call2 "EQUAL" (variable "C") (call2 "LESSP" (variable "X") (variable "Y")))) ∷ []

pub less_by_fixes : Derivable [] (clause less_by_fixes_clause)
unfolding symbols_of number_of
less_by_fixes = everywhere (less_of_fixes_clause ∷ []) less_by_fixes_log less_by_fixes_clause refl (less_of_fixes, tt) refl

pub less_by_fixes_at : (h : History) (a b c x y : Term) → IsTerm (symbols_of h) a → IsTerm (symbols_of h) b → IsTerm (symbols_of h) c → IsTerm (symbols_of h) x → IsTerm (symbols_of h) y → Derivable h (clause ((call2 "EQUAL" (call1 "FIX" x) a) ∷ [])) → Derivable h (clause ((call2 "EQUAL" (call1 "FIX" y) b) ∷ [])) → Derivable h (clause ((call2 "EQUAL" (call2 "LESSP" a b) c) ∷ [])) → Derivable h (clause ((call2 "EQUAL" (call2 "LESSP" x y) c) ∷ []))
less_by_fixes_at h a b c x y oa ob oc ox oy d1 d2 d3 =
    by_law h ((call2 "EQUAL" (call1 "FIX" (variable "X")) (variable "A")) ∷ (call2 "EQUAL" (call1 "FIX" (variable "Y")) (variable "B")) ∷ (call2 "EQUAL" (call2 "LESSP" (variable "A") (variable "B")) (variable "C")) ∷ []) (call2 "EQUAL" (call2 "LESSP" (variable "X") (variable "Y")) (variable "C")) ((codes "A", a) ∷ (codes "B", b) ∷ (codes "C", c) ∷ (codes "X", x) ∷ (codes "Y", y) ∷ []) (grown less_by_fixes_clause less_by_fixes h) (d1, (d2, (d3, tt))) ((equal_symbol h, ((lessp_symbol h, ox), oy)), oc)

pub laws_of_by_fixes_hold : AreDerivable laws_of_by_fixes
laws_of_by_fixes_hold h = (grown sum_of_fixes_clause sum_of_fixes h, (grown product_with_fix_clause product_with_fix h, (grown product_of_fixes_clause product_of_fixes h, (grown sum_by_fixes_clause sum_by_fixes h, (grown product_by_fixes_clause product_by_fixes h, (grown difference_by_fixes_clause difference_by_fixes h, (grown quotient_by_fixes_clause quotient_by_fixes h, (grown remainder_by_fixes_clause remainder_by_fixes h, (grown less_by_fixes_clause less_by_fixes h, tt)))))))))
