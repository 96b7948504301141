-- Laws of TIMES with PLUS in the ground history, each by a log over earlier ones, and at terms of any history.
use Rattle.std.proofs.Common.{List, [], ◌∷◌, refl}
use Rattle.std.specs.Prelude.{codes}
use Rattle.nq_logic.specs.Terms.{Term, IsTerm}
use Rattle.nq_logic.specs.Words.{variable, call0, call1, call2}
use Rattle.nq_logic.specs.Histories.{History}
use Rattle.nq_logic.specs.Ground.{symbols_of}
use Rattle.nq_logic.specs.Numerals.{number_of}
use Rattle.nq_logic.specs.Formulas.{clause}
use Rattle.nq_logic.specs.Derivations.{Derivable}
use Rattle.nq_proof.specs.Rules.{Taut, Cut, Instance, Reflexive, Replace, Induct, Forwards, Backwards}
use Rattle.nq_proof.specs.Logs.{LogLine, Ruled}
use Rattle.nq_proof.proofs.SoundLogs.{everywhere, grown}
use Rattle.nq_proof.proofs.ByLaw.{by_law}
use Rattle.nq_laws.specs.Laws.{AreDerivable}
use Rattle.nq_logic.proofs.Symbols.{add1_symbol, equal_symbol, fix_symbol, plus_symbol, times_symbol, zero_symbol}
use Rattle.nq_laws.specs.Products.{product_with_zero_clause, sum_of_add1_and_any_clause, product_with_one_clause, product_with_add1_clause, product_with_positive_clause, product_with_no_positive_clause, product_commutes_clause, sum_times_clause, product_associates_clause, laws_of_products}
use Rattle.nq_laws.specs.Zero.{zero_is_zero_clause, fix_of_zero_clause, fix_of_positive_clause, add1_of_sub1_clause, fix_of_sub1_clause}
use Rattle.nq_laws.proofs.Zero.{zero_is_zero, fix_of_zero, fix_of_positive, add1_of_sub1, fix_of_sub1}
use Rattle.nq_laws.specs.Ordinals.{size_is_ordinal_clause, size_falls_clause}
use Rattle.nq_laws.proofs.Ordinals.{size_is_ordinal, size_falls}
use Rattle.nq_laws.specs.Plus.{sum_at_zero_clause, sum_with_add1_clause, add1_of_fix_clause}
use Rattle.nq_laws.proofs.Plus.{sum_at_zero, sum_with_add1, add1_of_fix}
use Rattle.nq_laws.specs.PlusOrder.{sum_commutes_clause, sum_of_fix_clause}
use Rattle.nq_laws.proofs.PlusOrder.{sum_commutes, sum_of_fix}
use Rattle.nq_laws.specs.Times.{product_at_zero_clause, product_at_positive_clause, product_distributes_clause, product_of_zero_clause}
use Rattle.nq_laws.proofs.Times.{product_at_zero, product_at_positive, product_distributes, product_of_zero}
use Rattle.nq_laws.specs.ByFixes.{product_with_fix_clause}
use Rattle.nq_laws.proofs.ByFixes.{product_with_fix}

-- (EQUAL (TIMES X 0) 0)
abbrev product_with_zero_log : List LogLine
product_with_zero_log =
    Ruled (Reflexive (call0 "ZERO"))
    ∷ Ruled (Taut ((call1 "NOT" (call1 "ZEROP" (variable "X"))) ∷ (call1 "NOT" (call1 "NOT" (call1 "ZEROP" (variable "X")))) ∷ []))
    ∷ Ruled (Instance 2 ((codes "X", (call0 "ZERO")) ∷ []))
    ∷ Ruled (Cut 1 10 (call1 "ZEROP" (call0 "ZERO")))
    ∷ Ruled (Instance 5 ((codes "X", (call0 "ZERO")) ∷ []))
    ∷ Ruled (Cut 1 12 (call1 "ZEROP" (call0 "ZERO")))
    ∷ Ruled (Instance 13 ((codes "Y", (call0 "ZERO")) ∷ []))
    ∷ Ruled (Instance 6 ((codes "Y", (call0 "ZERO")) ∷ []))
    ∷ Ruled (Replace 8 1 (1 ∷ []) (call2 "TIMES" (variable "X") (call0 "ZERO")) Backwards)
    ∷ Ruled (Cut 15 16 (call2 "EQUAL" (call2 "TIMES" (variable "X") (call0 "ZERO")) (call0 "ZERO")))
    ∷ Ruled (Instance 7 ((codes "Y", (call0 "ZERO")) ∷ []))
    ∷ Ruled (Replace 8 1 (1 ∷ []) (call1 "FIX" (call0 "ZERO")) Backwards)
    ∷ Ruled (Cut 11 19 (call2 "EQUAL" (call1 "FIX" (call0 "ZERO")) (call0 "ZERO")))
    ∷ Ruled (Replace 20 1 (1 ∷ []) (call2 "PLUS" (call0 "ZERO") (call0 "ZERO")) Backwards)
    ∷ Ruled (Cut 14 21 (call2 "EQUAL" (call2 "PLUS" (call0 "ZERO") (call0 "ZERO")) (call1 "FIX" (call0 "ZERO"))))
    ∷ Ruled (Replace 22 1 (1 ∷ 2 ∷ []) (call2 "TIMES" (call1 "SUB1" (variable "X")) (call0 "ZERO")) Backwards)
    ∷ Ruled (Replace 23 1 (1 ∷ []) (call2 "TIMES" (variable "X") (call0 "ZERO")) Backwards)
    ∷ Ruled (Cut 18 24 (call2 "EQUAL" (call2 "TIMES" (variable "X") (call0 "ZERO")) (call2 "PLUS" (call0 "ZERO") (call2 "TIMES" (call1 "SUB1" (variable "X")) (call0 "ZERO")))))
    ∷ Ruled (Cut 25 9 (call1 "ZEROP" (variable "X")))
    ∷ Ruled (Induct (call2 "EQUAL" (call2 "TIMES" (variable "X") (call0 "ZERO")) (call0 "ZERO")) (call1 "COUNT" (variable "X")) 3 17 (record { test = (call1 "NOT" (call1 "ZEROP" (variable "X"))); step = 26; hypotheses = (record { line = 4; pairs = ((codes "X", (call1 "SUB1" (variable "X"))) ∷ []) } ∷ []) } ∷ [])) ∷ []

pub product_with_zero : Derivable [] (clause product_with_zero_clause)
unfolding symbols_of number_of
product_with_zero = everywhere (zero_is_zero_clause ∷ fix_of_zero_clause ∷ size_is_ordinal_clause ∷ size_falls_clause ∷ sum_at_zero_clause ∷ product_at_zero_clause ∷ product_at_positive_clause ∷ []) product_with_zero_log product_with_zero_clause refl (zero_is_zero, (fix_of_zero, (size_is_ordinal, (size_falls, (sum_at_zero, (product_at_zero, (product_at_positive, tt))))))) refl

pub product_with_zero_at : (h : History) (x : Term) → IsTerm (symbols_of h) x → Derivable h (clause ((call2 "EQUAL" (call2 "TIMES" x (call0 "ZERO")) (call0 "ZERO")) ∷ []))
product_with_zero_at h x ox =
    by_law h [] (call2 "EQUAL" (call2 "TIMES" (variable "X") (call0 "ZERO")) (call0 "ZERO")) ((codes "X", x) ∷ []) (grown product_with_zero_clause product_with_zero h) tt ((equal_symbol h, ((times_symbol h, ox), (zero_symbol h))), (zero_symbol h))

-- (EQUAL (PLUS (ADD1 X) Y) (ADD1 (PLUS X Y)))
abbrev sum_of_add1_and_any_log : List LogLine
sum_of_add1_and_any_log =
    Ruled (Instance 2 ((codes "X", (call1 "ADD1" (variable "X"))) ∷ []))
    ∷ Ruled (Instance 1 ((codes "X", (variable "Y")) ∷ (codes "Y", (variable "X")) ∷ []))
    ∷ Ruled (Replace 3 1 (2 ∷ []) (call1 "ADD1" (call2 "PLUS" (variable "Y") (variable "X"))) Forwards)
    ∷ Ruled (Cut 4 5 (call2 "EQUAL" (call2 "PLUS" (variable "Y") (call1 "ADD1" (variable "X"))) (call1 "ADD1" (call2 "PLUS" (variable "Y") (variable "X")))))
    ∷ Ruled (Instance 2 ((codes "X", (variable "Y")) ∷ (codes "Y", (variable "X")) ∷ []))
    ∷ Ruled (Replace 6 1 (2 ∷ 1 ∷ []) (call2 "PLUS" (variable "X") (variable "Y")) Forwards)
    ∷ Ruled (Cut 7 8 (call2 "EQUAL" (call2 "PLUS" (variable "Y") (variable "X")) (call2 "PLUS" (variable "X") (variable "Y")))) ∷ []

pub sum_of_add1_and_any : Derivable [] (clause sum_of_add1_and_any_clause)
unfolding symbols_of number_of
sum_of_add1_and_any = everywhere (sum_with_add1_clause ∷ sum_commutes_clause ∷ []) sum_of_add1_and_any_log sum_of_add1_and_any_clause refl (sum_with_add1, (sum_commutes, tt)) refl

pub sum_of_add1_and_any_at : (h : History) (x y : Term) → IsTerm (symbols_of h) x → IsTerm (symbols_of h) y → Derivable h (clause ((call2 "EQUAL" (call2 "PLUS" (call1 "ADD1" x) y) (call1 "ADD1" (call2 "PLUS" x y))) ∷ []))
sum_of_add1_and_any_at h x y ox oy =
    by_law h [] (call2 "EQUAL" (call2 "PLUS" (call1 "ADD1" (variable "X")) (variable "Y")) (call1 "ADD1" (call2 "PLUS" (variable "X") (variable "Y")))) ((codes "X", x) ∷ (codes "Y", y) ∷ []) (grown sum_of_add1_and_any_clause sum_of_add1_and_any h) tt ((equal_symbol h, ((plus_symbol h, (add1_symbol h, ox)), oy)), (add1_symbol h, ((plus_symbol h, ox), oy)))

-- (EQUAL (TIMES X (ADD1 0)) (FIX X))
abbrev product_with_one_log : List LogLine
product_with_one_log =
    Ruled (Reflexive (call0 "ZERO"))
    ∷ Ruled (Reflexive (variable "X"))
    ∷ Ruled (Taut ((call1 "NOT" (call1 "ZEROP" (variable "X"))) ∷ (call1 "NOT" (call1 "NOT" (call1 "ZEROP" (variable "X")))) ∷ []))
    ∷ Ruled (Replace 12 1 (2 ∷ []) (call1 "FIX" (variable "X")) Backwards)
    ∷ Ruled (Cut 2 15 (call2 "EQUAL" (call1 "FIX" (variable "X")) (call0 "ZERO")))
    ∷ Ruled (Replace 13 1 (2 ∷ []) (call1 "FIX" (variable "X")) Backwards)
    ∷ Ruled (Cut 3 17 (call2 "EQUAL" (call1 "FIX" (variable "X")) (variable "X")))
    ∷ Ruled (Replace 18 2 (1 ∷ []) (call1 "ADD1" (call1 "SUB1" (variable "X"))) Backwards)
    ∷ Ruled (Cut 4 19 (call2 "EQUAL" (call1 "ADD1" (call1 "SUB1" (variable "X"))) (variable "X")))
    ∷ Ruled (Instance 7 ((codes "X", (call0 "ZERO")) ∷ []))
    ∷ Ruled (Cut 1 21 (call1 "ZEROP" (call0 "ZERO")))
    ∷ Ruled (Instance 9 ((codes "Y", (call1 "ADD1" (call0 "ZERO"))) ∷ []))
    ∷ Ruled (Replace 16 2 (1 ∷ []) (call2 "TIMES" (variable "X") (call1 "ADD1" (call0 "ZERO"))) Backwards)
    ∷ Ruled (Cut 23 24 (call2 "EQUAL" (call2 "TIMES" (variable "X") (call1 "ADD1" (call0 "ZERO"))) (call0 "ZERO")))
    ∷ Ruled (Instance 10 ((codes "Y", (call1 "ADD1" (call0 "ZERO"))) ∷ []))
    ∷ Ruled (Instance 11 ((codes "X", (call0 "ZERO")) ∷ (codes "Y", (call1 "SUB1" (variable "X"))) ∷ []))
    ∷ Ruled (Instance 22 ((codes "Y", (call1 "SUB1" (variable "X"))) ∷ []))
    ∷ Ruled (Replace 20 2 (1 ∷ 1 ∷ []) (call1 "FIX" (call1 "SUB1" (variable "X"))) Backwards)
    ∷ Ruled (Cut 8 29 (call2 "EQUAL" (call1 "FIX" (call1 "SUB1" (variable "X"))) (call1 "SUB1" (variable "X"))))
    ∷ Ruled (Replace 30 2 (1 ∷ 1 ∷ []) (call2 "PLUS" (call0 "ZERO") (call1 "SUB1" (variable "X"))) Backwards)
    ∷ Ruled (Cut 28 31 (call2 "EQUAL" (call2 "PLUS" (call0 "ZERO") (call1 "SUB1" (variable "X"))) (call1 "FIX" (call1 "SUB1" (variable "X")))))
    ∷ Ruled (Replace 32 2 (1 ∷ []) (call2 "PLUS" (call1 "ADD1" (call0 "ZERO")) (call1 "SUB1" (variable "X"))) Backwards)
    ∷ Ruled (Cut 27 33 (call2 "EQUAL" (call2 "PLUS" (call1 "ADD1" (call0 "ZERO")) (call1 "SUB1" (variable "X"))) (call1 "ADD1" (call2 "PLUS" (call0 "ZERO") (call1 "SUB1" (variable "X"))))))
    ∷ Ruled (Replace 34 2 (1 ∷ 2 ∷ []) (call2 "TIMES" (call1 "SUB1" (variable "X")) (call1 "ADD1" (call0 "ZERO"))) Backwards)
    ∷ Ruled (Replace 35 2 (1 ∷ []) (call2 "TIMES" (variable "X") (call1 "ADD1" (call0 "ZERO"))) Backwards)
    ∷ Ruled (Cut 26 36 (call2 "EQUAL" (call2 "TIMES" (variable "X") (call1 "ADD1" (call0 "ZERO"))) (call2 "PLUS" (call1 "ADD1" (call0 "ZERO")) (call2 "TIMES" (call1 "SUB1" (variable "X")) (call1 "ADD1" (call0 "ZERO"))))))
    ∷ Ruled (Replace 37 3 (1 ∷ 2 ∷ []) (call1 "FIX" (call1 "SUB1" (variable "X"))) Backwards)
    ∷ Ruled (Cut 8 38 (call2 "EQUAL" (call1 "FIX" (call1 "SUB1" (variable "X"))) (call1 "SUB1" (variable "X"))))
    ∷ Ruled (Cut 39 14 (call1 "ZEROP" (variable "X")))
    ∷ Ruled (Induct (call2 "EQUAL" (call2 "TIMES" (variable "X") (call1 "ADD1" (call0 "ZERO"))) (call1 "FIX" (variable "X"))) (call1 "COUNT" (variable "X")) 5 25 (record { test = (call1 "NOT" (call1 "ZEROP" (variable "X"))); step = 40; hypotheses = (record { line = 6; pairs = ((codes "X", (call1 "SUB1" (variable "X"))) ∷ []) } ∷ []) } ∷ [])) ∷ []

pub product_with_one : Derivable [] (clause product_with_one_clause)
unfolding symbols_of number_of
product_with_one = everywhere (zero_is_zero_clause ∷ fix_of_zero_clause ∷ fix_of_positive_clause ∷ add1_of_sub1_clause ∷ size_is_ordinal_clause ∷ size_falls_clause ∷ sum_at_zero_clause ∷ fix_of_sub1_clause ∷ product_at_zero_clause ∷ product_at_positive_clause ∷ sum_of_add1_and_any_clause ∷ []) product_with_one_log product_with_one_clause refl (zero_is_zero, (fix_of_zero, (fix_of_positive, (add1_of_sub1, (size_is_ordinal, (size_falls, (sum_at_zero, (fix_of_sub1, (product_at_zero, (product_at_positive, (sum_of_add1_and_any, tt))))))))))) refl

pub product_with_one_at : (h : History) (x : Term) → IsTerm (symbols_of h) x → Derivable h (clause ((call2 "EQUAL" (call2 "TIMES" x (call1 "ADD1" (call0 "ZERO"))) (call1 "FIX" x)) ∷ []))
product_with_one_at h x ox =
    by_law h [] (call2 "EQUAL" (call2 "TIMES" (variable "X") (call1 "ADD1" (call0 "ZERO"))) (call1 "FIX" (variable "X"))) ((codes "X", x) ∷ []) (grown product_with_one_clause product_with_one h) tt ((equal_symbol h, ((times_symbol h, ox), (add1_symbol h, (zero_symbol h)))), (fix_symbol h, ox))

-- (EQUAL (TIMES X (ADD1 Y)) (PLUS X (TIMES X Y)))
abbrev product_with_add1_log : List LogLine
product_with_add1_log =
    Ruled (Instance 2 ((codes "X", (call0 "ZERO")) ∷ []))
    ∷ Ruled (Cut 1 8 (call1 "ZEROP" (call0 "ZERO")))
    ∷ Ruled (Instance 5 ((codes "Y", (call1 "ADD1" (call0 "ZERO"))) ∷ (codes "Z", (variable "Y")) ∷ []))
    ∷ Ruled (Replace 10 1 (2 ∷ 1 ∷ []) (call1 "FIX" (variable "X")) Forwards)
    ∷ Ruled (Cut 7 11 (call2 "EQUAL" (call2 "TIMES" (variable "X") (call1 "ADD1" (call0 "ZERO"))) (call1 "FIX" (variable "X"))))
    ∷ Ruled (Instance 4 ((codes "Y", (call2 "TIMES" (variable "X") (variable "Y"))) ∷ []))
    ∷ Ruled (Replace 12 1 (2 ∷ []) (call2 "PLUS" (variable "X") (call2 "TIMES" (variable "X") (variable "Y"))) Forwards)
    ∷ Ruled (Cut 13 14 (call2 "EQUAL" (call2 "PLUS" (call1 "FIX" (variable "X")) (call2 "TIMES" (variable "X") (variable "Y"))) (call2 "PLUS" (variable "X") (call2 "TIMES" (variable "X") (variable "Y")))))
    ∷ Ruled (Instance 6 ((codes "X", (call0 "ZERO")) ∷ []))
    ∷ Ruled (Replace 15 1 (1 ∷ 2 ∷ []) (call1 "ADD1" (call2 "PLUS" (call0 "ZERO") (variable "Y"))) Forwards)
    ∷ Ruled (Cut 16 17 (call2 "EQUAL" (call2 "PLUS" (call1 "ADD1" (call0 "ZERO")) (variable "Y")) (call1 "ADD1" (call2 "PLUS" (call0 "ZERO") (variable "Y")))))
    ∷ Ruled (Replace 18 1 (1 ∷ 2 ∷ 1 ∷ []) (call1 "FIX" (variable "Y")) Forwards)
    ∷ Ruled (Cut 9 19 (call2 "EQUAL" (call2 "PLUS" (call0 "ZERO") (variable "Y")) (call1 "FIX" (variable "Y"))))
    ∷ Ruled (Replace 20 1 (1 ∷ 2 ∷ []) (call1 "ADD1" (variable "Y")) Forwards)
    ∷ Ruled (Cut 3 21 (call2 "EQUAL" (call1 "ADD1" (call1 "FIX" (variable "Y"))) (call1 "ADD1" (variable "Y")))) ∷ []

pub product_with_add1 : Derivable [] (clause product_with_add1_clause)
unfolding symbols_of number_of
product_with_add1 = everywhere (zero_is_zero_clause ∷ sum_at_zero_clause ∷ add1_of_fix_clause ∷ sum_of_fix_clause ∷ product_distributes_clause ∷ sum_of_add1_and_any_clause ∷ product_with_one_clause ∷ []) product_with_add1_log product_with_add1_clause refl (zero_is_zero, (sum_at_zero, (add1_of_fix, (sum_of_fix, (product_distributes, (sum_of_add1_and_any, (product_with_one, tt))))))) refl

pub product_with_add1_at : (h : History) (x y : Term) → IsTerm (symbols_of h) x → IsTerm (symbols_of h) y → Derivable h (clause ((call2 "EQUAL" (call2 "TIMES" x (call1 "ADD1" y)) (call2 "PLUS" x (call2 "TIMES" x y))) ∷ []))
product_with_add1_at h x y ox oy =
    by_law h [] (call2 "EQUAL" (call2 "TIMES" (variable "X") (call1 "ADD1" (variable "Y"))) (call2 "PLUS" (variable "X") (call2 "TIMES" (variable "X") (variable "Y")))) ((codes "X", x) ∷ (codes "Y", y) ∷ []) (grown product_with_add1_clause product_with_add1 h) tt ((equal_symbol h, ((times_symbol h, ox), (add1_symbol h, oy))), ((plus_symbol h, ox), ((times_symbol h, ox), oy)))

-- (ZEROP Y), (EQUAL (TIMES X Y) (PLUS X (TIMES X (SUB1 Y))))
abbrev product_with_positive_log : List LogLine
product_with_positive_log =
    Ruled (Instance 1 ((codes "X", (variable "Y")) ∷ []))
    ∷ Ruled (Instance 2 ((codes "Y", (call1 "SUB1" (variable "Y"))) ∷ []))
    ∷ Ruled (Replace 4 1 (1 ∷ 2 ∷ []) (variable "Y") Forwards)
    ∷ Ruled (Cut 3 5 (call2 "EQUAL" (call1 "ADD1" (call1 "SUB1" (variable "Y"))) (variable "Y"))) ∷ []

pub product_with_positive : Derivable [] (clause product_with_positive_clause)
unfolding symbols_of number_of
product_with_positive = everywhere (add1_of_sub1_clause ∷ product_with_add1_clause ∷ []) product_with_positive_log product_with_positive_clause refl (add1_of_sub1, (product_with_add1, tt)) refl

-- (NOT (ZEROP Y)), (EQUAL (TIMES X Y) 0)
abbrev product_with_no_positive_log : List LogLine
product_with_no_positive_log =
    Ruled (Reflexive (call0 "ZERO"))
    ∷ Ruled (Instance 1 ((codes "X", (variable "Y")) ∷ []))
    ∷ Ruled (Replace 2 1 (1 ∷ 2 ∷ []) (call0 "ZERO") Forwards)
    ∷ Ruled (Cut 5 6 (call2 "EQUAL" (call1 "FIX" (variable "Y")) (call0 "ZERO")))
    ∷ Ruled (Replace 7 2 (1 ∷ []) (call0 "ZERO") Forwards)
    ∷ Ruled (Cut 3 8 (call2 "EQUAL" (call2 "TIMES" (variable "X") (call0 "ZERO")) (call0 "ZERO")))
    ∷ Ruled (Replace 4 1 (1 ∷ []) (call2 "TIMES" (variable "X") (variable "Y")) Forwards)
    ∷ Ruled (Cut 9 10 (call2 "EQUAL" (call0 "ZERO") (call2 "TIMES" (variable "X") (variable "Y")))) ∷ []

pub product_with_no_positive : Derivable [] (clause product_with_no_positive_clause)
unfolding symbols_of number_of
product_with_no_positive = everywhere (fix_of_zero_clause ∷ product_with_fix_clause ∷ product_with_zero_clause ∷ []) product_with_no_positive_log product_with_no_positive_clause refl (fix_of_zero, (product_with_fix, (product_with_zero, tt))) refl

pub product_with_no_positive_at : (h : History) (x y : Term) → IsTerm (symbols_of h) x → IsTerm (symbols_of h) y → Derivable h (clause ((call1 "ZEROP" y) ∷ [])) → Derivable h (clause ((call2 "EQUAL" (call2 "TIMES" x y) (call0 "ZERO")) ∷ []))
product_with_no_positive_at h x y ox oy d1 =
    by_law h ((call1 "ZEROP" (variable "Y")) ∷ []) (call2 "EQUAL" (call2 "TIMES" (variable "X") (variable "Y")) (call0 "ZERO")) ((codes "X", x) ∷ (codes "Y", y) ∷ []) (grown product_with_no_positive_clause product_with_no_positive h) (d1, tt) ((equal_symbol h, ((times_symbol h, ox), oy)), (zero_symbol h))

-- (EQUAL (TIMES X Y) (TIMES Y X))
abbrev product_commutes_log : List LogLine
product_commutes_log =
    Ruled (Reflexive (call0 "ZERO"))
    ∷ Ruled (Taut ((call1 "NOT" (call1 "ZEROP" (variable "X"))) ∷ (call1 "NOT" (call1 "NOT" (call1 "ZEROP" (variable "X")))) ∷ []))
    ∷ Ruled (Instance 6 ((codes "X", (variable "Y")) ∷ (codes "Y", (variable "X")) ∷ []))
    ∷ Ruled (Replace 7 1 (2 ∷ []) (call2 "TIMES" (variable "Y") (variable "X")) Backwards)
    ∷ Ruled (Cut 9 10 (call2 "EQUAL" (call2 "TIMES" (variable "Y") (variable "X")) (call0 "ZERO")))
    ∷ Ruled (Replace 11 2 (1 ∷ []) (call2 "TIMES" (variable "X") (variable "Y")) Backwards)
    ∷ Ruled (Cut 3 12 (call2 "EQUAL" (call2 "TIMES" (variable "X") (variable "Y")) (call0 "ZERO")))
    ∷ Ruled (Instance 5 ((codes "X", (variable "Y")) ∷ (codes "Y", (variable "X")) ∷ []))
    ∷ Ruled (Reflexive (call2 "PLUS" (variable "Y") (call2 "TIMES" (variable "Y") (call1 "SUB1" (variable "X")))))
    ∷ Ruled (Replace 15 1 (2 ∷ []) (call2 "TIMES" (variable "Y") (variable "X")) Backwards)
    ∷ Ruled (Cut 14 16 (call2 "EQUAL" (call2 "TIMES" (variable "Y") (variable "X")) (call2 "PLUS" (variable "Y") (call2 "TIMES" (variable "Y") (call1 "SUB1" (variable "X"))))))
    ∷ Ruled (Replace 17 2 (1 ∷ 2 ∷ []) (call2 "TIMES" (call1 "SUB1" (variable "X")) (variable "Y")) Backwards)
    ∷ Ruled (Replace 18 2 (1 ∷ []) (call2 "TIMES" (variable "X") (variable "Y")) Backwards)
    ∷ Ruled (Cut 4 19 (call2 "EQUAL" (call2 "TIMES" (variable "X") (variable "Y")) (call2 "PLUS" (variable "Y") (call2 "TIMES" (call1 "SUB1" (variable "X")) (variable "Y")))))
    ∷ Ruled (Cut 20 8 (call1 "ZEROP" (variable "X")))
    ∷ Ruled (Induct (call2 "EQUAL" (call2 "TIMES" (variable "X") (variable "Y")) (call2 "TIMES" (variable "Y") (variable "X"))) (call1 "COUNT" (variable "X")) 1 13 (record { test = (call1 "NOT" (call1 "ZEROP" (variable "X"))); step = 21; hypotheses = (record { line = 2; pairs = ((codes "X", (call1 "SUB1" (variable "X"))) ∷ []) } ∷ []) } ∷ [])) ∷ []

pub product_commutes : Derivable [] (clause product_commutes_clause)
unfolding symbols_of number_of
product_commutes = everywhere (size_is_ordinal_clause ∷ size_falls_clause ∷ product_at_zero_clause ∷ product_at_positive_clause ∷ product_with_positive_clause ∷ product_with_no_positive_clause ∷ []) product_commutes_log product_commutes_clause refl (size_is_ordinal, (size_falls, (product_at_zero, (product_at_positive, (product_with_positive, (product_with_no_positive, tt)))))) refl

pub product_commutes_at : (h : History) (x y : Term) → IsTerm (symbols_of h) x → IsTerm (symbols_of h) y → Derivable h (clause ((call2 "EQUAL" (call2 "TIMES" x y) (call2 "TIMES" y x)) ∷ []))
product_commutes_at h x y ox oy =
    by_law h [] (call2 "EQUAL" (call2 "TIMES" (variable "X") (variable "Y")) (call2 "TIMES" (variable "Y") (variable "X"))) ((codes "X", x) ∷ (codes "Y", y) ∷ []) (grown product_commutes_clause product_commutes h) tt ((equal_symbol h, ((times_symbol h, ox), oy)), ((times_symbol h, oy), ox))

-- (EQUAL (TIMES (PLUS X Y) Z) (PLUS (TIMES X Z) (TIMES Y Z)))
abbrev sum_times_log : List LogLine
sum_times_log =
    Ruled (Instance 1 ((codes "X", (variable "Z")) ∷ (codes "Y", (variable "X")) ∷ (codes "Z", (variable "Y")) ∷ []))
    ∷ Ruled (Instance 2 ((codes "X", (variable "Z")) ∷ (codes "Y", (call2 "PLUS" (variable "X") (variable "Y"))) ∷ []))
    ∷ Ruled (Replace 3 1 (1 ∷ []) (call2 "TIMES" (call2 "PLUS" (variable "X") (variable "Y")) (variable "Z")) Forwards)
    ∷ Ruled (Cut 4 5 (call2 "EQUAL" (call2 "TIMES" (variable "Z") (call2 "PLUS" (variable "X") (variable "Y"))) (call2 "TIMES" (call2 "PLUS" (variable "X") (variable "Y")) (variable "Z"))))
    ∷ Ruled (Instance 2 ((codes "X", (variable "Z")) ∷ (codes "Y", (variable "X")) ∷ []))
    ∷ Ruled (Replace 6 1 (2 ∷ 1 ∷ []) (call2 "TIMES" (variable "X") (variable "Z")) Forwards)
    ∷ Ruled (Cut 7 8 (call2 "EQUAL" (call2 "TIMES" (variable "Z") (variable "X")) (call2 "TIMES" (variable "X") (variable "Z"))))
    ∷ Ruled (Instance 2 ((codes "X", (variable "Z")) ∷ []))
    ∷ Ruled (Replace 9 1 (2 ∷ 2 ∷ []) (call2 "TIMES" (variable "Y") (variable "Z")) Forwards)
    ∷ Ruled (Cut 10 11 (call2 "EQUAL" (call2 "TIMES" (variable "Z") (variable "Y")) (call2 "TIMES" (variable "Y") (variable "Z")))) ∷ []

pub sum_times : Derivable [] (clause sum_times_clause)
unfolding symbols_of number_of
sum_times = everywhere (product_distributes_clause ∷ product_commutes_clause ∷ []) sum_times_log sum_times_clause refl (product_distributes, (product_commutes, tt)) refl

pub sum_times_at : (h : History) (x y z : Term) → IsTerm (symbols_of h) x → IsTerm (symbols_of h) y → IsTerm (symbols_of h) z → Derivable h (clause ((call2 "EQUAL" (call2 "TIMES" (call2 "PLUS" x y) z) (call2 "PLUS" (call2 "TIMES" x z) (call2 "TIMES" y z))) ∷ []))
sum_times_at h x y z ox oy oz =
    by_law h [] (call2 "EQUAL" (call2 "TIMES" (call2 "PLUS" (variable "X") (variable "Y")) (variable "Z")) (call2 "PLUS" (call2 "TIMES" (variable "X") (variable "Z")) (call2 "TIMES" (variable "Y") (variable "Z")))) ((codes "X", x) ∷ (codes "Y", y) ∷ (codes "Z", z) ∷ []) (grown sum_times_clause sum_times h) tt ((equal_symbol h, ((times_symbol h, ((plus_symbol h, ox), oy)), oz)), ((plus_symbol h, ((times_symbol h, ox), oz)), ((times_symbol h, oy), oz)))

-- (EQUAL (TIMES (TIMES X Y) Z) (TIMES X (TIMES Y Z)))
abbrev product_associates_log : List LogLine
product_associates_log =
    Ruled (Reflexive (call0 "ZERO"))
    ∷ Ruled (Taut ((call1 "NOT" (call1 "ZEROP" (variable "X"))) ∷ (call1 "NOT" (call1 "NOT" (call1 "ZEROP" (variable "X")))) ∷ []))
    ∷ Ruled (Instance 5 ((codes "Y", (variable "Z")) ∷ []))
    ∷ Ruled (Instance 3 ((codes "Y", (call2 "TIMES" (variable "Y") (variable "Z"))) ∷ []))
    ∷ Ruled (Replace 7 1 (2 ∷ []) (call2 "TIMES" (variable "X") (call2 "TIMES" (variable "Y") (variable "Z"))) Backwards)
    ∷ Ruled (Cut 10 11 (call2 "EQUAL" (call2 "TIMES" (variable "X") (call2 "TIMES" (variable "Y") (variable "Z"))) (call0 "ZERO")))
    ∷ Ruled (Replace 12 2 (1 ∷ []) (call2 "TIMES" (call0 "ZERO") (variable "Z")) Backwards)
    ∷ Ruled (Cut 9 13 (call2 "EQUAL" (call2 "TIMES" (call0 "ZERO") (variable "Z")) (call0 "ZERO")))
    ∷ Ruled (Replace 14 2 (1 ∷ 1 ∷ []) (call2 "TIMES" (variable "X") (variable "Y")) Backwards)
    ∷ Ruled (Cut 3 15 (call2 "EQUAL" (call2 "TIMES" (variable "X") (variable "Y")) (call0 "ZERO")))
    ∷ Ruled (Instance 6 ((codes "X", (variable "Y")) ∷ (codes "Y", (call2 "TIMES" (call1 "SUB1" (variable "X")) (variable "Y"))) ∷ []))
    ∷ Ruled (Instance 4 ((codes "Y", (call2 "TIMES" (variable "Y") (variable "Z"))) ∷ []))
    ∷ Ruled (Reflexive (call2 "PLUS" (call2 "TIMES" (variable "Y") (variable "Z")) (call2 "TIMES" (call1 "SUB1" (variable "X")) (call2 "TIMES" (variable "Y") (variable "Z")))))
    ∷ Ruled (Replace 19 1 (2 ∷ []) (call2 "TIMES" (variable "X") (call2 "TIMES" (variable "Y") (variable "Z"))) Backwards)
    ∷ Ruled (Cut 18 20 (call2 "EQUAL" (call2 "TIMES" (variable "X") (call2 "TIMES" (variable "Y") (variable "Z"))) (call2 "PLUS" (call2 "TIMES" (variable "Y") (variable "Z")) (call2 "TIMES" (call1 "SUB1" (variable "X")) (call2 "TIMES" (variable "Y") (variable "Z"))))))
    ∷ Ruled (Replace 21 2 (1 ∷ 2 ∷ []) (call2 "TIMES" (call2 "TIMES" (call1 "SUB1" (variable "X")) (variable "Y")) (variable "Z")) Backwards)
    ∷ Ruled (Replace 22 2 (1 ∷ []) (call2 "TIMES" (call2 "PLUS" (variable "Y") (call2 "TIMES" (call1 "SUB1" (variable "X")) (variable "Y"))) (variable "Z")) Backwards)
    ∷ Ruled (Cut 17 23 (call2 "EQUAL" (call2 "TIMES" (call2 "PLUS" (variable "Y") (call2 "TIMES" (call1 "SUB1" (variable "X")) (variable "Y"))) (variable "Z")) (call2 "PLUS" (call2 "TIMES" (variable "Y") (variable "Z")) (call2 "TIMES" (call2 "TIMES" (call1 "SUB1" (variable "X")) (variable "Y")) (variable "Z")))))
    ∷ Ruled (Replace 24 2 (1 ∷ 1 ∷ []) (call2 "TIMES" (variable "X") (variable "Y")) Backwards)
    ∷ Ruled (Cut 4 25 (call2 "EQUAL" (call2 "TIMES" (variable "X") (variable "Y")) (call2 "PLUS" (variable "Y") (call2 "TIMES" (call1 "SUB1" (variable "X")) (variable "Y")))))
    ∷ Ruled (Cut 26 8 (call1 "ZEROP" (variable "X")))
    ∷ Ruled (Induct (call2 "EQUAL" (call2 "TIMES" (call2 "TIMES" (variable "X") (variable "Y")) (variable "Z")) (call2 "TIMES" (variable "X") (call2 "TIMES" (variable "Y") (variable "Z")))) (call1 "COUNT" (variable "X")) 1 16 (record { test = (call1 "NOT" (call1 "ZEROP" (variable "X"))); step = 27; hypotheses = (record { line = 2; pairs = ((codes "X", (call1 "SUB1" (variable "X"))) ∷ []) } ∷ []) } ∷ [])) ∷ []

pub product_associates : Derivable [] (clause product_associates_clause)
unfolding symbols_of number_of
product_associates = everywhere (size_is_ordinal_clause ∷ size_falls_clause ∷ product_at_zero_clause ∷ product_at_positive_clause ∷ product_of_zero_clause ∷ sum_times_clause ∷ []) product_associates_log product_associates_clause refl (size_is_ordinal, (size_falls, (product_at_zero, (product_at_positive, (product_of_zero, (sum_times, tt)))))) refl

pub product_associates_at : (h : History) (x y z : Term) → IsTerm (symbols_of h) x → IsTerm (symbols_of h) y → IsTerm (symbols_of h) z → Derivable h (clause ((call2 "EQUAL" (call2 "TIMES" (call2 "TIMES" x y) z) (call2 "TIMES" x (call2 "TIMES" y z))) ∷ []))
product_associates_at h x y z ox oy oz =
    by_law h [] (call2 "EQUAL" (call2 "TIMES" (call2 "TIMES" (variable "X") (variable "Y")) (variable "Z")) (call2 "TIMES" (variable "X") (call2 "TIMES" (variable "Y") (variable "Z")))) ((codes "X", x) ∷ (codes "Y", y) ∷ (codes "Z", z) ∷ []) (grown product_associates_clause product_associates h) tt ((equal_symbol h, ((times_symbol h, ((times_symbol h, ox), oy)), oz)), ((times_symbol h, ox), ((times_symbol h, oy), oz)))

pub laws_of_products_hold : AreDerivable laws_of_products
laws_of_products_hold h = (grown product_with_zero_clause product_with_zero h, (grown sum_of_add1_and_any_clause sum_of_add1_and_any h, (grown product_with_one_clause product_with_one h, (grown product_with_add1_clause product_with_add1 h, (grown product_with_positive_clause product_with_positive h, (grown product_with_no_positive_clause product_with_no_positive h, (grown product_commutes_clause product_commutes h, (grown sum_times_clause sum_times h, (grown product_associates_clause product_associates h, tt)))))))))
