-- Laws of LESSP in the ground history, each by a log over earlier ones, and at terms of any history.
use Rattle.std.proofs.Common.{List, [], ◌∷◌, refl}
use Rattle.std.specs.Prelude.{codes}
use Rattle.nq_logic.specs.Terms.{Term, IsTerm}
use Rattle.nq_logic.specs.Words.{variable, call0, call1, call2, call3}
use Rattle.nq_logic.specs.Histories.{History}
use Rattle.nq_logic.specs.Ground.{symbols_of}
use Rattle.nq_logic.specs.Numerals.{number_of}
use Rattle.nq_logic.specs.Formulas.{clause}
use Rattle.nq_logic.specs.Derivations.{Derivable}
use Rattle.nq_proof.specs.Rules.{Taut, AxiomRow, Cut, Instance, Reflexive, Replace, Induct, Backwards}
use Rattle.nq_proof.specs.Logs.{LogLine, Ruled}
use Rattle.nq_proof.proofs.SoundLogs.{everywhere, grown}
use Rattle.nq_proof.proofs.ByLaw.{by_law}
use Rattle.nq_laws.specs.Laws.{AreDerivable}
use Rattle.nq_logic.proofs.Symbols.{add1_symbol, equal_symbol, false_symbol, fix_symbol, lessp_symbol, not_symbol, plus_symbol, zero_symbol}
use Rattle.nq_laws.specs.Less.{less_than_zero_clause, less_of_positives_clause, zero_less_than_positive_clause, less_is_irreflexive_clause, nothing_less_than_zero_clause, less_of_fixes_clause, less_of_add1s_clause, sum_is_monotone_clause, laws_of_less}
use Rattle.nq_laws.specs.Zero.{zero_is_zero_clause, fix_of_zero_clause, fix_of_positive_clause, add1_is_not_zero_clause}
use Rattle.nq_laws.proofs.Zero.{zero_is_zero, fix_of_zero, fix_of_positive, add1_is_not_zero}
use Rattle.nq_laws.specs.Ordinals.{size_is_ordinal_clause, size_falls_clause}
use Rattle.nq_laws.proofs.Ordinals.{size_is_ordinal, size_falls}
use Rattle.nq_laws.specs.Plus.{sum_is_number_clause, sum_at_zero_clause, sum_at_positive_clause}
use Rattle.nq_laws.proofs.Plus.{sum_is_number, sum_at_zero, sum_at_positive}

-- (NOT (ZEROP Y)), (EQUAL (LESSP X Y) F)
abbrev less_than_zero_log : List LogLine
less_than_zero_log =
    Ruled (AxiomRow (codes "IF") 2 0)
    ∷ Ruled (Reflexive (call0 "FALSE"))
    ∷ Ruled (AxiomRow (codes "LESSP") 1 0)
    ∷ Ruled (Instance 1 ((codes "X", (call1 "ZEROP" (variable "Y"))) ∷ (codes "Y", (call0 "FALSE")) ∷ (codes "Z", (call3 "IF" (call1 "ZEROP" (variable "X")) (call0 "TRUE") (call2 "LESSP" (call1 "SUB1" (variable "X")) (call1 "SUB1" (variable "Y"))))) ∷ []))
    ∷ Ruled (Replace 2 1 (1 ∷ []) (call3 "IF" (call1 "ZEROP" (variable "Y")) (call0 "FALSE") (call3 "IF" (call1 "ZEROP" (variable "X")) (call0 "TRUE") (call2 "LESSP" (call1 "SUB1" (variable "X")) (call1 "SUB1" (variable "Y"))))) Backwards)
    ∷ Ruled (Cut 4 5 (call2 "EQUAL" (call3 "IF" (call1 "ZEROP" (variable "Y")) (call0 "FALSE") (call3 "IF" (call1 "ZEROP" (variable "X")) (call0 "TRUE") (call2 "LESSP" (call1 "SUB1" (variable "X")) (call1 "SUB1" (variable "Y"))))) (call0 "FALSE")))
    ∷ Ruled (Replace 6 2 (1 ∷ []) (call2 "LESSP" (variable "X") (variable "Y")) Backwards)
    ∷ Ruled (Cut 3 7 (call2 "EQUAL" (call2 "LESSP" (variable "X") (variable "Y")) (call3 "IF" (call1 "ZEROP" (variable "Y")) (call0 "FALSE") (call3 "IF" (call1 "ZEROP" (variable "X")) (call0 "TRUE") (call2 "LESSP" (call1 "SUB1" (variable "X")) (call1 "SUB1" (variable "Y"))))))) ∷ []

pub less_than_zero : Derivable [] (clause less_than_zero_clause)
unfolding symbols_of number_of
less_than_zero = everywhere [] less_than_zero_log less_than_zero_clause refl tt refl

pub less_than_zero_at : (h : History) (x y : Term) → IsTerm (symbols_of h) x → IsTerm (symbols_of h) y → Derivable h (clause ((call1 "ZEROP" y) ∷ [])) → Derivable h (clause ((call2 "EQUAL" (call2 "LESSP" x y) (call0 "FALSE")) ∷ []))
less_than_zero_at h x y ox oy d1 =
    by_law h ((call1 "ZEROP" (variable "Y")) ∷ []) (call2 "EQUAL" (call2 "LESSP" (variable "X") (variable "Y")) (call0 "FALSE")) ((codes "X", x) ∷ (codes "Y", y) ∷ []) (grown less_than_zero_clause less_than_zero h) (d1, tt) ((equal_symbol h, ((lessp_symbol h, ox), oy)), (false_symbol h))

-- (ZEROP X), (ZEROP Y), (EQUAL (LESSP X Y) (LESSP (SUB1 X) (SUB1 Y)))
abbrev less_of_positives_log : List LogLine
less_of_positives_log =
    Ruled (AxiomRow (codes "IF") 1 0)
    ∷ Ruled (AxiomRow (codes "LESSP") 1 0)
    ∷ Ruled (Instance 1 ((codes "X", (call1 "ZEROP" (variable "X"))) ∷ (codes "Y", (call0 "TRUE")) ∷ (codes "Z", (call2 "LESSP" (call1 "SUB1" (variable "X")) (call1 "SUB1" (variable "Y")))) ∷ []))
    ∷ Ruled (Instance 1 ((codes "X", (call1 "ZEROP" (variable "Y"))) ∷ (codes "Y", (call0 "FALSE")) ∷ (codes "Z", (call2 "LESSP" (call1 "SUB1" (variable "X")) (call1 "SUB1" (variable "Y")))) ∷ []))
    ∷ Ruled (Reflexive (call2 "LESSP" (call1 "SUB1" (variable "X")) (call1 "SUB1" (variable "Y"))))
    ∷ Ruled (Replace 5 1 (1 ∷ []) (call3 "IF" (call1 "ZEROP" (variable "Y")) (call0 "FALSE") (call2 "LESSP" (call1 "SUB1" (variable "X")) (call1 "SUB1" (variable "Y")))) Backwards)
    ∷ Ruled (Cut 4 6 (call2 "EQUAL" (call3 "IF" (call1 "ZEROP" (variable "Y")) (call0 "FALSE") (call2 "LESSP" (call1 "SUB1" (variable "X")) (call1 "SUB1" (variable "Y")))) (call2 "LESSP" (call1 "SUB1" (variable "X")) (call1 "SUB1" (variable "Y")))))
    ∷ Ruled (Replace 7 2 (1 ∷ 3 ∷ []) (call3 "IF" (call1 "ZEROP" (variable "X")) (call0 "TRUE") (call2 "LESSP" (call1 "SUB1" (variable "X")) (call1 "SUB1" (variable "Y")))) Backwards)
    ∷ Ruled (Cut 3 8 (call2 "EQUAL" (call3 "IF" (call1 "ZEROP" (variable "X")) (call0 "TRUE") (call2 "LESSP" (call1 "SUB1" (variable "X")) (call1 "SUB1" (variable "Y")))) (call2 "LESSP" (call1 "SUB1" (variable "X")) (call1 "SUB1" (variable "Y")))))
    ∷ Ruled (Replace 9 3 (1 ∷ []) (call2 "LESSP" (variable "X") (variable "Y")) Backwards)
    ∷ Ruled (Cut 2 10 (call2 "EQUAL" (call2 "LESSP" (variable "X") (variable "Y")) (call3 "IF" (call1 "ZEROP" (variable "Y")) (call0 "FALSE") (call3 "IF" (call1 "ZEROP" (variable "X")) (call0 "TRUE") (call2 "LESSP" (call1 "SUB1" (variable "X")) (call1 "SUB1" (variable "Y"))))))) ∷ []

pub less_of_positives : Derivable [] (clause less_of_positives_clause)
unfolding symbols_of number_of
less_of_positives = everywhere [] less_of_positives_log less_of_positives_clause refl tt refl

-- (NOT (ZEROP X)), (ZEROP Y), (EQUAL (LESSP X Y) T)
abbrev zero_less_than_positive_log : List LogLine
zero_less_than_positive_log =
    Ruled (AxiomRow (codes "IF") 2 0)
    ∷ Ruled (AxiomRow (codes "IF") 1 0)
    ∷ Ruled (AxiomRow (codes "LESSP") 1 0)
    ∷ Ruled (Instance 1 ((codes "X", (call1 "ZEROP" (variable "X"))) ∷ (codes "Y", (call0 "TRUE")) ∷ (codes "Z", (call2 "LESSP" (call1 "SUB1" (variable "X")) (call1 "SUB1" (variable "Y")))) ∷ []))
    ∷ Ruled (Instance 2 ((codes "X", (call1 "ZEROP" (variable "Y"))) ∷ (codes "Y", (call0 "FALSE")) ∷ (codes "Z", (call0 "TRUE")) ∷ []))
    ∷ Ruled (Reflexive (call0 "TRUE"))
    ∷ Ruled (Replace 6 1 (1 ∷ []) (call3 "IF" (call1 "ZEROP" (variable "Y")) (call0 "FALSE") (call0 "TRUE")) Backwards)
    ∷ Ruled (Cut 5 7 (call2 "EQUAL" (call3 "IF" (call1 "ZEROP" (variable "Y")) (call0 "FALSE") (call0 "TRUE")) (call0 "TRUE")))
    ∷ Ruled (Replace 8 2 (1 ∷ 3 ∷ []) (call3 "IF" (call1 "ZEROP" (variable "X")) (call0 "TRUE") (call2 "LESSP" (call1 "SUB1" (variable "X")) (call1 "SUB1" (variable "Y")))) Backwards)
    ∷ Ruled (Cut 4 9 (call2 "EQUAL" (call3 "IF" (call1 "ZEROP" (variable "X")) (call0 "TRUE") (call2 "LESSP" (call1 "SUB1" (variable "X")) (call1 "SUB1" (variable "Y")))) (call0 "TRUE")))
    ∷ Ruled (Replace 10 3 (1 ∷ []) (call2 "LESSP" (variable "X") (variable "Y")) Backwards)
    ∷ Ruled (Cut 3 11 (call2 "EQUAL" (call2 "LESSP" (variable "X") (variable "Y")) (call3 "IF" (call1 "ZEROP" (variable "Y")) (call0 "FALSE") (call3 "IF" (call1 "ZEROP" (variable "X")) (call0 "TRUE") (call2 "LESSP" (call1 "SUB1" (variable "X")) (call1 "SUB1" (variable "Y"))))))) ∷ []

pub zero_less_than_positive : Derivable [] (clause zero_less_than_positive_clause)
unfolding symbols_of number_of
zero_less_than_positive = everywhere [] zero_less_than_positive_log zero_less_than_positive_clause refl tt refl

-- (NOT (LESSP X X))
abbrev less_is_irreflexive_log : List LogLine
less_is_irreflexive_log =
    Ruled (AxiomRow (codes "FALSE") 1 0)
    ∷ Ruled (Taut ((call1 "NOT" (call1 "ZEROP" (variable "X"))) ∷ (call1 "NOT" (call1 "NOT" (call1 "ZEROP" (variable "X")))) ∷ []))
    ∷ Ruled (Instance 3 ((codes "Y", (variable "X")) ∷ []))
    ∷ Ruled (Replace 5 1 (1 ∷ []) (call2 "LESSP" (variable "X") (variable "X")) Backwards)
    ∷ Ruled (Cut 7 8 (call2 "EQUAL" (call2 "LESSP" (variable "X") (variable "X")) (call0 "FALSE")))
    ∷ Ruled (Instance 4 ((codes "Y", (variable "X")) ∷ []))
    ∷ Ruled (Taut ((call1 "NOT" (call2 "LESSP" (call1 "SUB1" (variable "X")) (call1 "SUB1" (variable "X")))) ∷ (call1 "NOT" (call1 "NOT" (call2 "LESSP" (call1 "SUB1" (variable "X")) (call1 "SUB1" (variable "X"))))) ∷ []))
    ∷ Ruled (Replace 11 1 (1 ∷ []) (call2 "LESSP" (variable "X") (variable "X")) Backwards)
    ∷ Ruled (Cut 10 12 (call2 "EQUAL" (call2 "LESSP" (variable "X") (variable "X")) (call2 "LESSP" (call1 "SUB1" (variable "X")) (call1 "SUB1" (variable "X")))))
    ∷ Ruled (Cut 13 6 (call1 "ZEROP" (variable "X")))
    ∷ Ruled (Induct (call1 "NOT" (call2 "LESSP" (variable "X") (variable "X"))) (call1 "COUNT" (variable "X")) 1 9 (record { test = (call1 "NOT" (call1 "ZEROP" (variable "X"))); step = 14; hypotheses = (record { line = 2; pairs = ((codes "X", (call1 "SUB1" (variable "X"))) ∷ []) } ∷ []) } ∷ [])) ∷ []

pub less_is_irreflexive : Derivable [] (clause less_is_irreflexive_clause)
unfolding symbols_of number_of
less_is_irreflexive = everywhere (size_is_ordinal_clause ∷ size_falls_clause ∷ less_than_zero_clause ∷ less_of_positives_clause ∷ []) less_is_irreflexive_log less_is_irreflexive_clause refl (size_is_ordinal, (size_falls, (less_than_zero, (less_of_positives, tt)))) refl

pub less_is_irreflexive_at : (h : History) (x : Term) → IsTerm (symbols_of h) x → Derivable h (clause ((call1 "NOT" (call2 "LESSP" x x)) ∷ []))
less_is_irreflexive_at h x ox =
    by_law h [] (call1 "NOT" (call2 "LESSP" (variable "X") (variable "X"))) ((codes "X", x) ∷ []) (grown less_is_irreflexive_clause less_is_irreflexive h) tt (not_symbol h, ((lessp_symbol h, ox), ox))

-- (EQUAL (LESSP X 0) F)
abbrev nothing_less_than_zero_log : List LogLine
nothing_less_than_zero_log =
    Ruled (Instance 2 ((codes "Y", (call0 "ZERO")) ∷ []))
    ∷ Ruled (Cut 1 3 (call1 "ZEROP" (call0 "ZERO"))) ∷ []

pub nothing_less_than_zero : Derivable [] (clause nothing_less_than_zero_clause)
unfolding symbols_of number_of
nothing_less_than_zero = everywhere (zero_is_zero_clause ∷ less_than_zero_clause ∷ []) nothing_less_than_zero_log nothing_less_than_zero_clause refl (zero_is_zero, (less_than_zero, tt)) refl

pub nothing_less_than_zero_at : (h : History) (x : Term) → IsTerm (symbols_of h) x → Derivable h (clause ((call2 "EQUAL" (call2 "LESSP" x (call0 "ZERO")) (call0 "FALSE")) ∷ []))
nothing_less_than_zero_at h x ox =
    by_law h [] (call2 "EQUAL" (call2 "LESSP" (variable "X") (call0 "ZERO")) (call0 "FALSE")) ((codes "X", x) ∷ []) (grown nothing_less_than_zero_clause nothing_less_than_zero h) tt ((equal_symbol h, ((lessp_symbol h, ox), (zero_symbol h))), (false_symbol h))

-- (EQUAL (LESSP (FIX X) (FIX Y)) (LESSP X Y))
abbrev less_of_fixes_log : List LogLine
less_of_fixes_log =
    Ruled (Reflexive (call0 "FALSE"))
    ∷ Ruled (Instance 2 ((codes "X", (variable "Y")) ∷ []))
    ∷ Ruled (Reflexive (call0 "TRUE"))
    ∷ Ruled (Reflexive (call2 "LESSP" (variable "X") (variable "Y")))
    ∷ Ruled (Instance 5 ((codes "X", (call0 "ZERO")) ∷ []))
    ∷ Ruled (Cut 1 11 (call1 "ZEROP" (call0 "ZERO")))
    ∷ Ruled (Instance 6 ((codes "X", (call0 "ZERO")) ∷ []))
    ∷ Ruled (Replace 7 1 (2 ∷ []) (call2 "LESSP" (variable "X") (variable "Y")) Backwards)
    ∷ Ruled (Cut 4 14 (call2 "EQUAL" (call2 "LESSP" (variable "X") (variable "Y")) (call0 "FALSE")))
    ∷ Ruled (Replace 15 2 (1 ∷ []) (call2 "LESSP" (call0 "ZERO") (call0 "ZERO")) Backwards)
    ∷ Ruled (Cut 13 16 (call2 "EQUAL" (call2 "LESSP" (call0 "ZERO") (call0 "ZERO")) (call0 "FALSE")))
    ∷ Ruled (Replace 17 2 (1 ∷ 2 ∷ []) (call1 "FIX" (variable "Y")) Backwards)
    ∷ Ruled (Cut 8 18 (call2 "EQUAL" (call1 "FIX" (variable "Y")) (call0 "ZERO")))
    ∷ Ruled (Replace 19 2 (1 ∷ 1 ∷ []) (call1 "FIX" (variable "X")) Backwards)
    ∷ Ruled (Cut 2 20 (call2 "EQUAL" (call1 "FIX" (variable "X")) (call0 "ZERO")))
    ∷ Ruled (Replace 15 2 (1 ∷ []) (call2 "LESSP" (variable "X") (call0 "ZERO")) Backwards)
    ∷ Ruled (Cut 6 22 (call2 "EQUAL" (call2 "LESSP" (variable "X") (call0 "ZERO")) (call0 "FALSE")))
    ∷ Ruled (Replace 23 2 (1 ∷ 2 ∷ []) (call1 "FIX" (variable "Y")) Backwards)
    ∷ Ruled (Cut 8 24 (call2 "EQUAL" (call1 "FIX" (variable "Y")) (call0 "ZERO")))
    ∷ Ruled (Replace 25 2 (1 ∷ 1 ∷ []) (call1 "FIX" (variable "X")) Backwards)
    ∷ Ruled (Cut 3 26 (call2 "EQUAL" (call1 "FIX" (variable "X")) (variable "X")))
    ∷ Ruled (Cut 27 21 (call1 "ZEROP" (variable "X")))
    ∷ Ruled (Instance 3 ((codes "X", (variable "Y")) ∷ []))
    ∷ Ruled (Replace 9 1 (2 ∷ []) (call2 "LESSP" (variable "X") (variable "Y")) Backwards)
    ∷ Ruled (Cut 5 30 (call2 "EQUAL" (call2 "LESSP" (variable "X") (variable "Y")) (call0 "TRUE")))
    ∷ Ruled (Replace 31 3 (1 ∷ []) (call2 "LESSP" (call0 "ZERO") (variable "Y")) Backwards)
    ∷ Ruled (Cut 12 32 (call2 "EQUAL" (call2 "LESSP" (call0 "ZERO") (variable "Y")) (call0 "TRUE")))
    ∷ Ruled (Replace 33 3 (1 ∷ 2 ∷ []) (call1 "FIX" (variable "Y")) Backwards)
    ∷ Ruled (Cut 29 34 (call2 "EQUAL" (call1 "FIX" (variable "Y")) (variable "Y")))
    ∷ Ruled (Replace 35 3 (1 ∷ 1 ∷ []) (call1 "FIX" (variable "X")) Backwards)
    ∷ Ruled (Cut 2 36 (call2 "EQUAL" (call1 "FIX" (variable "X")) (call0 "ZERO")))
    ∷ Ruled (Replace 10 1 (1 ∷ 2 ∷ []) (call1 "FIX" (variable "Y")) Backwards)
    ∷ Ruled (Cut 29 38 (call2 "EQUAL" (call1 "FIX" (variable "Y")) (variable "Y")))
    ∷ Ruled (Replace 39 2 (1 ∷ 1 ∷ []) (call1 "FIX" (variable "X")) Backwards)
    ∷ Ruled (Cut 3 40 (call2 "EQUAL" (call1 "FIX" (variable "X")) (variable "X")))
    ∷ Ruled (Cut 41 37 (call1 "ZEROP" (variable "X")))
    ∷ Ruled (Cut 42 28 (call1 "ZEROP" (variable "Y"))) ∷ []

pub less_of_fixes : Derivable [] (clause less_of_fixes_clause)
unfolding symbols_of number_of
less_of_fixes = everywhere (zero_is_zero_clause ∷ fix_of_zero_clause ∷ fix_of_positive_clause ∷ less_than_zero_clause ∷ zero_less_than_positive_clause ∷ nothing_less_than_zero_clause ∷ []) less_of_fixes_log less_of_fixes_clause refl (zero_is_zero, (fix_of_zero, (fix_of_positive, (less_than_zero, (zero_less_than_positive, (nothing_less_than_zero, tt)))))) refl

pub less_of_fixes_at : (h : History) (x y : Term) → IsTerm (symbols_of h) x → IsTerm (symbols_of h) y → Derivable h (clause ((call2 "EQUAL" (call2 "LESSP" (call1 "FIX" x) (call1 "FIX" y)) (call2 "LESSP" x y)) ∷ []))
less_of_fixes_at h x y ox oy =
    by_law h [] (call2 "EQUAL" (call2 "LESSP" (call1 "FIX" (variable "X")) (call1 "FIX" (variable "Y"))) (call2 "LESSP" (variable "X") (variable "Y"))) ((codes "X", x) ∷ (codes "Y", y) ∷ []) (grown less_of_fixes_clause less_of_fixes h) tt ((equal_symbol h, ((lessp_symbol h, (fix_symbol h, ox)), (fix_symbol h, oy))), ((lessp_symbol h, ox), oy))

-- (NOT (NUMBERP X)), (NOT (NUMBERP Y)), (EQUAL (LESSP (ADD1 X) (ADD1 Y)) (LESSP X Y))
abbrev less_of_add1s_log : List LogLine
less_of_add1s_log =
    Ruled (AxiomRow (codes "ADD1") 6 1)
    ∷ Ruled (AxiomRow (codes "IF") 1 0)
    ∷ Ruled (AxiomRow (codes "FALSE") 1 0)
    ∷ Ruled (Instance 2 ((codes "X1", (variable "X")) ∷ []))
    ∷ Ruled (AxiomRow (codes "LESSP") 1 0)
    ∷ Ruled (Reflexive (call2 "LESSP" (variable "X") (variable "Y")))
    ∷ Ruled (Instance 6 ((codes "X", (call1 "ADD1" (variable "X"))) ∷ (codes "Y", (call1 "ADD1" (variable "Y"))) ∷ []))
    ∷ Ruled (Instance 1 ((codes "X", (variable "Y")) ∷ []))
    ∷ Ruled (Instance 2 ((codes "X1", (variable "Y")) ∷ []))
    ∷ Ruled (Instance 3 ((codes "X", (call0 "FALSE")) ∷ (codes "Y", (call0 "TRUE")) ∷ (codes "Z", (call2 "LESSP" (variable "X") (variable "Y"))) ∷ []))
    ∷ Ruled (Cut 11 4 (call0 "FALSE"))
    ∷ Ruled (Instance 3 ((codes "X", (call0 "FALSE")) ∷ (codes "Y", (call0 "FALSE")) ∷ (codes "Z", (call2 "LESSP" (variable "X") (variable "Y"))) ∷ []))
    ∷ Ruled (Cut 13 4 (call0 "FALSE"))
    ∷ Ruled (Replace 7 1 (1 ∷ []) (call3 "IF" (call0 "FALSE") (call0 "FALSE") (call2 "LESSP" (variable "X") (variable "Y"))) Backwards)
    ∷ Ruled (Cut 14 15 (call2 "EQUAL" (call3 "IF" (call0 "FALSE") (call0 "FALSE") (call2 "LESSP" (variable "X") (variable "Y"))) (call2 "LESSP" (variable "X") (variable "Y"))))
    ∷ Ruled (Replace 16 1 (1 ∷ 3 ∷ []) (call3 "IF" (call0 "FALSE") (call0 "TRUE") (call2 "LESSP" (variable "X") (variable "Y"))) Backwards)
    ∷ Ruled (Cut 12 17 (call2 "EQUAL" (call3 "IF" (call0 "FALSE") (call0 "TRUE") (call2 "LESSP" (variable "X") (variable "Y"))) (call2 "LESSP" (variable "X") (variable "Y"))))
    ∷ Ruled (Replace 18 1 (1 ∷ 3 ∷ 3 ∷ 2 ∷ []) (call1 "SUB1" (call1 "ADD1" (variable "Y"))) Backwards)
    ∷ Ruled (Cut 10 19 (call2 "EQUAL" (call1 "SUB1" (call1 "ADD1" (variable "Y"))) (variable "Y")))
    ∷ Ruled (Replace 20 2 (1 ∷ 3 ∷ 3 ∷ 1 ∷ []) (call1 "SUB1" (call1 "ADD1" (variable "X"))) Backwards)
    ∷ Ruled (Cut 5 21 (call2 "EQUAL" (call1 "SUB1" (call1 "ADD1" (variable "X"))) (variable "X")))
    ∷ Ruled (Replace 22 3 (1 ∷ 3 ∷ 1 ∷ []) (call1 "ZEROP" (call1 "ADD1" (variable "X"))) Backwards)
    ∷ Ruled (Cut 1 23 (call2 "EQUAL" (call1 "ZEROP" (call1 "ADD1" (variable "X"))) (call0 "FALSE")))
    ∷ Ruled (Replace 24 3 (1 ∷ 1 ∷ []) (call1 "ZEROP" (call1 "ADD1" (variable "Y"))) Backwards)
    ∷ Ruled (Cut 9 25 (call2 "EQUAL" (call1 "ZEROP" (call1 "ADD1" (variable "Y"))) (call0 "FALSE")))
    ∷ Ruled (Replace 26 3 (1 ∷ []) (call2 "LESSP" (call1 "ADD1" (variable "X")) (call1 "ADD1" (variable "Y"))) Backwards)
    ∷ Ruled (Cut 8 27 (call2 "EQUAL" (call2 "LESSP" (call1 "ADD1" (variable "X")) (call1 "ADD1" (variable "Y"))) (call3 "IF" (call1 "ZEROP" (call1 "ADD1" (variable "Y"))) (call0 "FALSE") (call3 "IF" (call1 "ZEROP" (call1 "ADD1" (variable "X"))) (call0 "TRUE") (call2 "LESSP" (call1 "SUB1" (call1 "ADD1" (variable "X"))) (call1 "SUB1" (call1 "ADD1" (variable "Y")))))))) ∷ []

pub less_of_add1s : Derivable [] (clause less_of_add1s_clause)
unfolding symbols_of number_of
less_of_add1s = everywhere (add1_is_not_zero_clause ∷ []) less_of_add1s_log less_of_add1s_clause refl (add1_is_not_zero, tt) refl

pub less_of_add1s_at : (h : History) (x y : Term) → IsTerm (symbols_of h) x → IsTerm (symbols_of h) y → Derivable h (clause ((call1 "NUMBERP" x) ∷ [])) → Derivable h (clause ((call1 "NUMBERP" y) ∷ [])) → Derivable h (clause ((call2 "EQUAL" (call2 "LESSP" (call1 "ADD1" x) (call1 "ADD1" y)) (call2 "LESSP" x y)) ∷ []))
less_of_add1s_at h x y ox oy d1 d2 =
    by_law h ((call1 "NUMBERP" (variable "X")) ∷ (call1 "NUMBERP" (variable "Y")) ∷ []) (call2 "EQUAL" (call2 "LESSP" (call1 "ADD1" (variable "X")) (call1 "ADD1" (variable "Y"))) (call2 "LESSP" (variable "X") (variable "Y"))) ((codes "X", x) ∷ (codes "Y", y) ∷ []) (grown less_of_add1s_clause less_of_add1s h) (d1, (d2, tt)) ((equal_symbol h, ((lessp_symbol h, (add1_symbol h, ox)), (add1_symbol h, oy))), ((lessp_symbol h, ox), oy))

-- (EQUAL (LESSP (PLUS X Y) (PLUS X Z)) (LESSP Y Z))
abbrev sum_is_monotone_log : List LogLine
sum_is_monotone_log =
    Ruled (Taut ((call1 "NOT" (call1 "ZEROP" (variable "X"))) ∷ (call1 "NOT" (call1 "NOT" (call1 "ZEROP" (variable "X")))) ∷ []))
    ∷ Ruled (Instance 7 ((codes "X", (call2 "PLUS" (variable "X") (variable "Y"))) ∷ (codes "Y", (call2 "PLUS" (variable "A") (variable "B"))) ∷ []))
    ∷ Ruled (Cut 1 9 (call1 "NUMBERP" (call2 "PLUS" (variable "X") (variable "Y"))))
    ∷ Ruled (Instance 1 ((codes "X", (variable "A")) ∷ (codes "Y", (variable "B")) ∷ []))
    ∷ Ruled (Cut 11 10 (call1 "NUMBERP" (call2 "PLUS" (variable "A") (variable "B"))))
    ∷ Ruled (Instance 4 ((codes "Y", (variable "Z")) ∷ []))
    ∷ Ruled (Instance 6 ((codes "X", (variable "Y")) ∷ (codes "Y", (variable "Z")) ∷ []))
    ∷ Ruled (Reflexive (call2 "LESSP" (variable "Y") (variable "Z")))
    ∷ Ruled (Replace 15 1 (1 ∷ []) (call2 "LESSP" (call1 "FIX" (variable "Y")) (call1 "FIX" (variable "Z"))) Backwards)
    ∷ Ruled (Cut 14 16 (call2 "EQUAL" (call2 "LESSP" (call1 "FIX" (variable "Y")) (call1 "FIX" (variable "Z"))) (call2 "LESSP" (variable "Y") (variable "Z"))))
    ∷ Ruled (Replace 17 1 (1 ∷ 2 ∷ []) (call2 "PLUS" (variable "X") (variable "Z")) Backwards)
    ∷ Ruled (Cut 13 18 (call2 "EQUAL" (call2 "PLUS" (variable "X") (variable "Z")) (call1 "FIX" (variable "Z"))))
    ∷ Ruled (Replace 19 2 (1 ∷ 1 ∷ []) (call2 "PLUS" (variable "X") (variable "Y")) Backwards)
    ∷ Ruled (Cut 4 20 (call2 "EQUAL" (call2 "PLUS" (variable "X") (variable "Y")) (call1 "FIX" (variable "Y"))))
    ∷ Ruled (Instance 5 ((codes "Y", (variable "Z")) ∷ []))
    ∷ Ruled (Instance 12 ((codes "X", (call1 "SUB1" (variable "X"))) ∷ (codes "A", (call1 "SUB1" (variable "X"))) ∷ (codes "B", (variable "Z")) ∷ []))
    ∷ Ruled (Taut ((call2 "EQUAL" (call2 "LESSP" (call2 "PLUS" (call1 "SUB1" (variable "X")) (variable "Y")) (call2 "PLUS" (call1 "SUB1" (variable "X")) (variable "Z"))) (call2 "LESSP" (variable "Y") (variable "Z"))) ∷ (call1 "NOT" (call2 "EQUAL" (call2 "LESSP" (call2 "PLUS" (call1 "SUB1" (variable "X")) (variable "Y")) (call2 "PLUS" (call1 "SUB1" (variable "X")) (variable "Z"))) (call2 "LESSP" (variable "Y") (variable "Z")))) ∷ []))
    ∷ Ruled (Replace 24 1 (1 ∷ []) (call2 "LESSP" (call1 "ADD1" (call2 "PLUS" (call1 "SUB1" (variable "X")) (variable "Y"))) (call1 "ADD1" (call2 "PLUS" (call1 "SUB1" (variable "X")) (variable "Z")))) Backwards)
    ∷ Ruled (Cut 23 25 (call2 "EQUAL" (call2 "LESSP" (call1 "ADD1" (call2 "PLUS" (call1 "SUB1" (variable "X")) (variable "Y"))) (call1 "ADD1" (call2 "PLUS" (call1 "SUB1" (variable "X")) (variable "Z")))) (call2 "LESSP" (call2 "PLUS" (call1 "SUB1" (variable "X")) (variable "Y")) (call2 "PLUS" (call1 "SUB1" (variable "X")) (variable "Z")))))
    ∷ Ruled (Replace 26 1 (1 ∷ 2 ∷ []) (call2 "PLUS" (variable "X") (variable "Z")) Backwards)
    ∷ Ruled (Cut 22 27 (call2 "EQUAL" (call2 "PLUS" (variable "X") (variable "Z")) (call1 "ADD1" (call2 "PLUS" (call1 "SUB1" (variable "X")) (variable "Z")))))
    ∷ Ruled (Replace 28 2 (1 ∷ 1 ∷ []) (call2 "PLUS" (variable "X") (variable "Y")) Backwards)
    ∷ Ruled (Cut 5 29 (call2 "EQUAL" (call2 "PLUS" (variable "X") (variable "Y")) (call1 "ADD1" (call2 "PLUS" (call1 "SUB1" (variable "X")) (variable "Y")))))
    ∷ Ruled (Cut 30 8 (call1 "ZEROP" (variable "X")))
    ∷ Ruled (Induct (call2 "EQUAL" (call2 "LESSP" (call2 "PLUS" (variable "X") (variable "Y")) (call2 "PLUS" (variable "X") (variable "Z"))) (call2 "LESSP" (variable "Y") (variable "Z"))) (call1 "COUNT" (variable "X")) 2 21 (record { test = (call1 "NOT" (call1 "ZEROP" (variable "X"))); step = 31; hypotheses = (record { line = 3; pairs = ((codes "X", (call1 "SUB1" (variable "X"))) ∷ []) } ∷ []) } ∷ [])) ∷ []

pub sum_is_monotone : Derivable [] (clause sum_is_monotone_clause)
unfolding symbols_of number_of
sum_is_monotone = everywhere (sum_is_number_clause ∷ size_is_ordinal_clause ∷ size_falls_clause ∷ sum_at_zero_clause ∷ sum_at_positive_clause ∷ less_of_fixes_clause ∷ less_of_add1s_clause ∷ []) sum_is_monotone_log sum_is_monotone_clause refl (sum_is_number, (size_is_ordinal, (size_falls, (sum_at_zero, (sum_at_positive, (less_of_fixes, (less_of_add1s, tt))))))) refl

pub sum_is_monotone_at : (h : History) (x y z : Term) → IsTerm (symbols_of h) x → IsTerm (symbols_of h) y → IsTerm (symbols_of h) z → Derivable h (clause ((call2 "EQUAL" (call2 "LESSP" (call2 "PLUS" x y) (call2 "PLUS" x z)) (call2 "LESSP" y z)) ∷ []))
sum_is_monotone_at h x y z ox oy oz =
    by_law h [] (call2 "EQUAL" (call2 "LESSP" (call2 "PLUS" (variable "X") (variable "Y")) (call2 "PLUS" (variable "X") (variable "Z"))) (call2 "LESSP" (variable "Y") (variable "Z"))) ((codes "X", x) ∷ (codes "Y", y) ∷ (codes "Z", z) ∷ []) (grown sum_is_monotone_clause sum_is_monotone h) tt ((equal_symbol h, ((lessp_symbol h, ((plus_symbol h, ox), oy)), ((plus_symbol h, ox), oz))), ((lessp_symbol h, oy), oz))

pub laws_of_less_hold : AreDerivable laws_of_less
laws_of_less_hold h = (grown less_than_zero_clause less_than_zero h, (grown less_of_positives_clause less_of_positives h, (grown zero_less_than_positive_clause zero_less_than_positive h, (grown less_is_irreflexive_clause less_is_irreflexive h, (grown nothing_less_than_zero_clause nothing_less_than_zero h, (grown less_of_fixes_clause less_of_fixes h, (grown less_of_add1s_clause less_of_add1s h, (grown sum_is_monotone_clause sum_is_monotone h, tt))))))))
