-- Laws of COUNT in the ground history, each by a log over earlier ones, and at terms of any history.
use Rattle.std.proofs.Common.{List, [], ◌∷◌, refl}
use Rattle.std.specs.Prelude.{codes}
use Rattle.nq_logic.specs.Terms.{Term, IsTerm}
use Rattle.nq_logic.specs.Words.{variable, call0, call1, call2, call3}
use Rattle.nq_logic.specs.Histories.{History}
use Rattle.nq_logic.specs.Ground.{symbols_of}
use Rattle.nq_logic.specs.Numerals.{number_of}
use Rattle.nq_logic.specs.Formulas.{clause}
use Rattle.nq_logic.specs.Derivations.{Derivable}
use Rattle.nq_proof.specs.Rules.{Taut, AxiomRow, Cut, Instance, Reflexive, Replace, Induct, Forwards, Backwards}
use Rattle.nq_proof.specs.Logs.{LogLine, Ruled}
use Rattle.nq_proof.proofs.SoundLogs.{everywhere, grown}
use Rattle.nq_proof.proofs.ByLaw.{by_law}
use Rattle.nq_laws.specs.Laws.{AreDerivable}
use Rattle.nq_logic.proofs.Symbols.{add1_symbol, car_symbol, cdr_symbol, count_symbol, equal_symbol, lessp_symbol, plus_symbol}
use Rattle.nq_laws.specs.Sizes.{less_than_sum_clause, size_of_pair_clause, first_is_smaller_clause, rest_is_smaller_clause, laws_of_sizes}
use Rattle.nq_laws.specs.Zero.{add1_is_number_clause, add1_is_not_zero_clause}
use Rattle.nq_laws.proofs.Zero.{add1_is_number, add1_is_not_zero}
use Rattle.nq_laws.specs.Ordinals.{size_is_ordinal_clause, size_falls_clause}
use Rattle.nq_laws.proofs.Ordinals.{size_is_ordinal, size_falls}
use Rattle.nq_laws.specs.Plus.{sum_at_positive_clause}
use Rattle.nq_laws.proofs.Plus.{sum_at_positive}
use Rattle.nq_laws.specs.PlusOrder.{sum_commutes_clause}
use Rattle.nq_laws.proofs.PlusOrder.{sum_commutes}

-- (LESSP X (ADD1 (PLUS X Y)))
abbrev less_than_sum_log : List LogLine
less_than_sum_log =
    Ruled (AxiomRow (codes "ADD1") 6 1)
    ∷ Ruled (AxiomRow (codes "IF") 2 0)
    ∷ Ruled (AxiomRow (codes "IF") 1 0)
    ∷ Ruled (AxiomRow (codes "TRUE") 1 0)
    ∷ Ruled (AxiomRow (codes "FALSE") 1 0)
    ∷ Ruled (Taut ((call1 "NOT" (call1 "ZEROP" (variable "X"))) ∷ (call1 "NOT" (call1 "NOT" (call1 "ZEROP" (variable "X")))) ∷ []))
    ∷ Ruled (AxiomRow (codes "LESSP") 1 0)
    ∷ Ruled (Instance 6 ((codes "X1", (call1 "ADD1" (variable "X1"))) ∷ []))
    ∷ Ruled (Cut 1 13 (call1 "NUMBERP" (call1 "ADD1" (variable "X1"))))
    ∷ Ruled (Instance 12 ((codes "Y", (call1 "ADD1" (call2 "PLUS" (variable "X") (variable "Y")))) ∷ []))
    ∷ Ruled (Instance 2 ((codes "X", (call2 "PLUS" (variable "X") (variable "Y"))) ∷ []))
    ∷ Ruled (Instance 7 ((codes "X", (call1 "ZEROP" (variable "X"))) ∷ (codes "Y", (call0 "TRUE")) ∷ (codes "Z", (call2 "LESSP" (call1 "SUB1" (variable "X")) (call1 "SUB1" (call1 "ADD1" (call2 "PLUS" (variable "X") (variable "Y")))))) ∷ []))
    ∷ Ruled (Instance 8 ((codes "X", (call0 "FALSE")) ∷ (codes "Y", (call0 "FALSE")) ∷ (codes "Z", (call0 "TRUE")) ∷ []))
    ∷ Ruled (Cut 18 10 (call0 "FALSE"))
    ∷ Ruled (Replace 9 1 [] (call3 "IF" (call0 "FALSE") (call0 "FALSE") (call0 "TRUE")) Backwards)
    ∷ Ruled (Cut 19 20 (call2 "EQUAL" (call3 "IF" (call0 "FALSE") (call0 "FALSE") (call0 "TRUE")) (call0 "TRUE")))
    ∷ Ruled (Replace 21 1 (3 ∷ []) (call3 "IF" (call1 "ZEROP" (variable "X")) (call0 "TRUE") (call2 "LESSP" (call1 "SUB1" (variable "X")) (call1 "SUB1" (call1 "ADD1" (call2 "PLUS" (variable "X") (variable "Y")))))) Backwards)
    ∷ Ruled (Cut 17 22 (call2 "EQUAL" (call3 "IF" (call1 "ZEROP" (variable "X")) (call0 "TRUE") (call2 "LESSP" (call1 "SUB1" (variable "X")) (call1 "SUB1" (call1 "ADD1" (call2 "PLUS" (variable "X") (variable "Y")))))) (call0 "TRUE")))
    ∷ Ruled (Replace 23 2 (1 ∷ []) (call1 "ZEROP" (call1 "ADD1" (call2 "PLUS" (variable "X") (variable "Y")))) Backwards)
    ∷ Ruled (Cut 16 24 (call2 "EQUAL" (call1 "ZEROP" (call1 "ADD1" (call2 "PLUS" (variable "X") (variable "Y")))) (call0 "FALSE")))
    ∷ Ruled (Replace 25 2 [] (call2 "LESSP" (variable "X") (call1 "ADD1" (call2 "PLUS" (variable "X") (variable "Y")))) Backwards)
    ∷ Ruled (Cut 15 26 (call2 "EQUAL" (call2 "LESSP" (variable "X") (call1 "ADD1" (call2 "PLUS" (variable "X") (variable "Y")))) (call3 "IF" (call1 "ZEROP" (call1 "ADD1" (call2 "PLUS" (variable "X") (variable "Y")))) (call0 "FALSE") (call3 "IF" (call1 "ZEROP" (variable "X")) (call0 "TRUE") (call2 "LESSP" (call1 "SUB1" (variable "X")) (call1 "SUB1" (call1 "ADD1" (call2 "PLUS" (variable "X") (variable "Y")))))))))
    ∷ Ruled (Instance 12 ((codes "Y", (call1 "ADD1" (call1 "ADD1" (call2 "PLUS" (call1 "SUB1" (variable "X")) (variable "Y"))))) ∷ []))
    ∷ Ruled (Instance 2 ((codes "X", (call1 "ADD1" (call2 "PLUS" (call1 "SUB1" (variable "X")) (variable "Y")))) ∷ []))
    ∷ Ruled (Instance 14 ((codes "X1", (call2 "PLUS" (call1 "SUB1" (variable "X")) (variable "Y"))) ∷ []))
    ∷ Ruled (Instance 8 ((codes "X", (call1 "ZEROP" (variable "X"))) ∷ (codes "Y", (call0 "TRUE")) ∷ (codes "Z", (call2 "LESSP" (call1 "SUB1" (variable "X")) (call1 "ADD1" (call2 "PLUS" (call1 "SUB1" (variable "X")) (variable "Y"))))) ∷ []))
    ∷ Ruled (Instance 8 ((codes "X", (call0 "FALSE")) ∷ (codes "Y", (call0 "FALSE")) ∷ (codes "Z", (call2 "LESSP" (call1 "SUB1" (variable "X")) (call1 "ADD1" (call2 "PLUS" (call1 "SUB1" (variable "X")) (variable "Y"))))) ∷ []))
    ∷ Ruled (Cut 32 10 (call0 "FALSE"))
    ∷ Ruled (Taut ((call2 "LESSP" (call1 "SUB1" (variable "X")) (call1 "ADD1" (call2 "PLUS" (call1 "SUB1" (variable "X")) (variable "Y")))) ∷ (call1 "NOT" (call2 "LESSP" (call1 "SUB1" (variable "X")) (call1 "ADD1" (call2 "PLUS" (call1 "SUB1" (variable "X")) (variable "Y"))))) ∷ []))
    ∷ Ruled (Replace 34 1 [] (call3 "IF" (call0 "FALSE") (call0 "FALSE") (call2 "LESSP" (call1 "SUB1" (variable "X")) (call1 "ADD1" (call2 "PLUS" (call1 "SUB1" (variable "X")) (variable "Y"))))) Backwards)
    ∷ Ruled (Cut 33 35 (call2 "EQUAL" (call3 "IF" (call0 "FALSE") (call0 "FALSE") (call2 "LESSP" (call1 "SUB1" (variable "X")) (call1 "ADD1" (call2 "PLUS" (call1 "SUB1" (variable "X")) (variable "Y"))))) (call2 "LESSP" (call1 "SUB1" (variable "X")) (call1 "ADD1" (call2 "PLUS" (call1 "SUB1" (variable "X")) (variable "Y"))))))
    ∷ Ruled (Replace 36 1 (3 ∷ []) (call3 "IF" (call1 "ZEROP" (variable "X")) (call0 "TRUE") (call2 "LESSP" (call1 "SUB1" (variable "X")) (call1 "ADD1" (call2 "PLUS" (call1 "SUB1" (variable "X")) (variable "Y"))))) Backwards)
    ∷ Ruled (Cut 31 37 (call2 "EQUAL" (call3 "IF" (call1 "ZEROP" (variable "X")) (call0 "TRUE") (call2 "LESSP" (call1 "SUB1" (variable "X")) (call1 "ADD1" (call2 "PLUS" (call1 "SUB1" (variable "X")) (variable "Y"))))) (call2 "LESSP" (call1 "SUB1" (variable "X")) (call1 "ADD1" (call2 "PLUS" (call1 "SUB1" (variable "X")) (variable "Y"))))))
    ∷ Ruled (Replace 38 2 (3 ∷ 3 ∷ 2 ∷ []) (call1 "SUB1" (call1 "ADD1" (call1 "ADD1" (call2 "PLUS" (call1 "SUB1" (variable "X")) (variable "Y"))))) Backwards)
    ∷ Ruled (Cut 30 39 (call2 "EQUAL" (call1 "SUB1" (call1 "ADD1" (call1 "ADD1" (call2 "PLUS" (call1 "SUB1" (variable "X")) (variable "Y"))))) (call1 "ADD1" (call2 "PLUS" (call1 "SUB1" (variable "X")) (variable "Y")))))
    ∷ Ruled (Replace 40 2 (1 ∷ []) (call1 "ZEROP" (call1 "ADD1" (call1 "ADD1" (call2 "PLUS" (call1 "SUB1" (variable "X")) (variable "Y"))))) Backwards)
    ∷ Ruled (Cut 29 41 (call2 "EQUAL" (call1 "ZEROP" (call1 "ADD1" (call1 "ADD1" (call2 "PLUS" (call1 "SUB1" (variable "X")) (variable "Y"))))) (call0 "FALSE")))
    ∷ Ruled (Replace 42 2 [] (call2 "LESSP" (variable "X") (call1 "ADD1" (call1 "ADD1" (call2 "PLUS" (call1 "SUB1" (variable "X")) (variable "Y"))))) Backwards)
    ∷ Ruled (Cut 28 43 (call2 "EQUAL" (call2 "LESSP" (variable "X") (call1 "ADD1" (call1 "ADD1" (call2 "PLUS" (call1 "SUB1" (variable "X")) (variable "Y"))))) (call3 "IF" (call1 "ZEROP" (call1 "ADD1" (call1 "ADD1" (call2 "PLUS" (call1 "SUB1" (variable "X")) (variable "Y"))))) (call0 "FALSE") (call3 "IF" (call1 "ZEROP" (variable "X")) (call0 "TRUE") (call2 "LESSP" (call1 "SUB1" (variable "X")) (call1 "SUB1" (call1 "ADD1" (call1 "ADD1" (call2 "PLUS" (call1 "SUB1" (variable "X")) (variable "Y"))))))))))
    ∷ Ruled (Replace 44 2 (2 ∷ 1 ∷ []) (call2 "PLUS" (variable "X") (variable "Y")) Backwards)
    ∷ Ruled (Cut 5 45 (call2 "EQUAL" (call2 "PLUS" (variable "X") (variable "Y")) (call1 "ADD1" (call2 "PLUS" (call1 "SUB1" (variable "X")) (variable "Y")))))
    ∷ Ruled (Cut 46 11 (call1 "ZEROP" (variable "X")))
    ∷ Ruled (Induct (call2 "LESSP" (variable "X") (call1 "ADD1" (call2 "PLUS" (variable "X") (variable "Y")))) (call1 "COUNT" (variable "X")) 3 27 (record { test = (call1 "NOT" (call1 "ZEROP" (variable "X"))); step = 47; hypotheses = (record { line = 4; pairs = ((codes "X", (call1 "SUB1" (variable "X"))) ∷ []) } ∷ []) } ∷ [])) ∷ []

pub less_than_sum : Derivable [] (clause less_than_sum_clause)
unfolding symbols_of number_of
less_than_sum = everywhere (add1_is_number_clause ∷ add1_is_not_zero_clause ∷ size_is_ordinal_clause ∷ size_falls_clause ∷ sum_at_positive_clause ∷ []) less_than_sum_log less_than_sum_clause refl (add1_is_number, (add1_is_not_zero, (size_is_ordinal, (size_falls, (sum_at_positive, tt))))) refl

pub less_than_sum_at : (h : History) (x y : Term) → IsTerm (symbols_of h) x → IsTerm (symbols_of h) y → Derivable h (clause ((call2 "LESSP" x (call1 "ADD1" (call2 "PLUS" x y))) ∷ []))
less_than_sum_at h x y ox oy =
    by_law h [] (call2 "LESSP" (variable "X") (call1 "ADD1" (call2 "PLUS" (variable "X") (variable "Y")))) ((codes "X", x) ∷ (codes "Y", y) ∷ []) (grown less_than_sum_clause less_than_sum h) tt ((lessp_symbol h, ox), (add1_symbol h, ((plus_symbol h, ox), oy)))

-- (NOT (LISTP X)), (EQUAL (COUNT X) (ADD1 (PLUS (COUNT (CAR X)) (COUNT (CDR X)))))
abbrev size_of_pair_log : List LogLine
size_of_pair_log =
    Ruled (AxiomRow (codes "IF") 2 0)
    ∷ Ruled (AxiomRow (codes "TRUE") 1 0)
    ∷ Ruled (AxiomRow (codes "CONS") 14 0)
    ∷ Ruled (Instance 3 ((codes "X1", (call1 "CAR" (variable "X"))) ∷ (codes "X2", (call1 "CDR" (variable "X"))) ∷ []))
    ∷ Ruled (AxiomRow (codes "CONS") 5 0)
    ∷ Ruled (Replace 4 1 (1 ∷ 1 ∷ []) (variable "X") Forwards)
    ∷ Ruled (Cut 5 6 (call2 "EQUAL" (call2 "CONS" (call1 "CAR" (variable "X")) (call1 "CDR" (variable "X"))) (variable "X")))
    ∷ Ruled (Instance 1 ((codes "X", (call0 "TRUE")) ∷ (codes "Y", (call1 "COUNT" (call1 "CAR" (variable "X")))) ∷ (codes "Z", (call0 "ZERO")) ∷ []))
    ∷ Ruled (Cut 2 8 (call0 "TRUE"))
    ∷ Ruled (Instance 1 ((codes "X", (call0 "TRUE")) ∷ (codes "Y", (call1 "COUNT" (call1 "CDR" (variable "X")))) ∷ (codes "Z", (call0 "ZERO")) ∷ []))
    ∷ Ruled (Cut 2 10 (call0 "TRUE"))
    ∷ Ruled (Reflexive (call1 "ADD1" (call2 "PLUS" (call1 "COUNT" (call1 "CAR" (variable "X"))) (call1 "COUNT" (call1 "CDR" (variable "X"))))))
    ∷ Ruled (Replace 12 1 (1 ∷ 1 ∷ 2 ∷ []) (call3 "IF" (call0 "TRUE") (call1 "COUNT" (call1 "CDR" (variable "X"))) (call0 "ZERO")) Backwards)
    ∷ Ruled (Cut 11 13 (call2 "EQUAL" (call3 "IF" (call0 "TRUE") (call1 "COUNT" (call1 "CDR" (variable "X"))) (call0 "ZERO")) (call1 "COUNT" (call1 "CDR" (variable "X")))))
    ∷ Ruled (Replace 14 1 (1 ∷ 1 ∷ 1 ∷ []) (call3 "IF" (call0 "TRUE") (call1 "COUNT" (call1 "CAR" (variable "X"))) (call0 "ZERO")) Backwards)
    ∷ Ruled (Cut 9 15 (call2 "EQUAL" (call3 "IF" (call0 "TRUE") (call1 "COUNT" (call1 "CAR" (variable "X"))) (call0 "ZERO")) (call1 "COUNT" (call1 "CAR" (variable "X")))))
    ∷ Ruled (Replace 16 1 (1 ∷ []) (call1 "COUNT" (variable "X")) Backwards)
    ∷ Ruled (Cut 7 17 (call2 "EQUAL" (call1 "COUNT" (variable "X")) (call1 "ADD1" (call2 "PLUS" (call3 "IF" (call0 "TRUE") (call1 "COUNT" (call1 "CAR" (variable "X"))) (call0 "ZERO")) (call3 "IF" (call0 "TRUE") (call1 "COUNT" (call1 "CDR" (variable "X"))) (call0 "ZERO")))))) ∷ []

pub size_of_pair : Derivable [] (clause size_of_pair_clause)
unfolding symbols_of number_of
size_of_pair = everywhere [] size_of_pair_log size_of_pair_clause refl tt refl

pub size_of_pair_at : (h : History) (x : Term) → IsTerm (symbols_of h) x → Derivable h (clause ((call1 "LISTP" x) ∷ [])) → Derivable h (clause ((call2 "EQUAL" (call1 "COUNT" x) (call1 "ADD1" (call2 "PLUS" (call1 "COUNT" (call1 "CAR" x)) (call1 "COUNT" (call1 "CDR" x))))) ∷ []))
size_of_pair_at h x ox d1 =
    by_law h ((call1 "LISTP" (variable "X")) ∷ []) (call2 "EQUAL" (call1 "COUNT" (variable "X")) (call1 "ADD1" (call2 "PLUS" (call1 "COUNT" (call1 "CAR" (variable "X"))) (call1 "COUNT" (call1 "CDR" (variable "X")))))) ((codes "X", x) ∷ []) (grown size_of_pair_clause size_of_pair h) (d1, tt) ((equal_symbol h, (count_symbol h, ox)), (add1_symbol h, ((plus_symbol h, (count_symbol h, (car_symbol h, ox))), (count_symbol h, (cdr_symbol h, ox)))))

-- (NOT (LISTP X)), (LESSP (COUNT (CAR X)) (COUNT X))
abbrev first_is_smaller_log : List LogLine
first_is_smaller_log =
    Ruled (Instance 1 ((codes "X", (call1 "COUNT" (call1 "CAR" (variable "X")))) ∷ (codes "Y", (call1 "COUNT" (call1 "CDR" (variable "X")))) ∷ []))
    ∷ Ruled (Replace 3 1 (2 ∷ []) (call1 "COUNT" (variable "X")) Backwards)
    ∷ Ruled (Cut 2 4 (call2 "EQUAL" (call1 "COUNT" (variable "X")) (call1 "ADD1" (call2 "PLUS" (call1 "COUNT" (call1 "CAR" (variable "X"))) (call1 "COUNT" (call1 "CDR" (variable "X"))))))) ∷ []

pub first_is_smaller : Derivable [] (clause first_is_smaller_clause)
unfolding symbols_of number_of
first_is_smaller = everywhere (less_than_sum_clause ∷ size_of_pair_clause ∷ []) first_is_smaller_log first_is_smaller_clause refl (less_than_sum, (size_of_pair, tt)) refl

pub first_is_smaller_at : (h : History) (x : Term) → IsTerm (symbols_of h) x → Derivable h (clause ((call1 "LISTP" x) ∷ [])) → Derivable h (clause ((call2 "LESSP" (call1 "COUNT" (call1 "CAR" x)) (call1 "COUNT" x)) ∷ []))
first_is_smaller_at h x ox d1 =
    by_law h ((call1 "LISTP" (variable "X")) ∷ []) (call2 "LESSP" (call1 "COUNT" (call1 "CAR" (variable "X"))) (call1 "COUNT" (variable "X"))) ((codes "X", x) ∷ []) (grown first_is_smaller_clause first_is_smaller h) (d1, tt) ((lessp_symbol h, (count_symbol h, (car_symbol h, ox))), (count_symbol h, ox))

-- (NOT (LISTP X)), (LESSP (COUNT (CDR X)) (COUNT X))
abbrev rest_is_smaller_log : List LogLine
rest_is_smaller_log =
    Ruled (Instance 1 ((codes "X", (call1 "COUNT" (call1 "CAR" (variable "X")))) ∷ (codes "Y", (call1 "COUNT" (call1 "CDR" (variable "X")))) ∷ []))
    ∷ Ruled (Instance 2 ((codes "X", (call1 "COUNT" (call1 "CDR" (variable "X")))) ∷ (codes "Y", (call1 "COUNT" (call1 "CAR" (variable "X")))) ∷ []))
    ∷ Ruled (Replace 5 1 (2 ∷ 1 ∷ []) (call2 "PLUS" (call1 "COUNT" (call1 "CAR" (variable "X"))) (call1 "COUNT" (call1 "CDR" (variable "X")))) Backwards)
    ∷ Ruled (Cut 4 6 (call2 "EQUAL" (call2 "PLUS" (call1 "COUNT" (call1 "CAR" (variable "X"))) (call1 "COUNT" (call1 "CDR" (variable "X")))) (call2 "PLUS" (call1 "COUNT" (call1 "CDR" (variable "X"))) (call1 "COUNT" (call1 "CAR" (variable "X"))))))
    ∷ Ruled (Replace 7 1 (2 ∷ []) (call1 "COUNT" (variable "X")) Backwards)
    ∷ Ruled (Cut 3 8 (call2 "EQUAL" (call1 "COUNT" (variable "X")) (call1 "ADD1" (call2 "PLUS" (call1 "COUNT" (call1 "CAR" (variable "X"))) (call1 "COUNT" (call1 "CDR" (variable "X"))))))) ∷ []

pub rest_is_smaller : Derivable [] (clause rest_is_smaller_clause)
unfolding symbols_of number_of
rest_is_smaller = everywhere (sum_commutes_clause ∷ less_than_sum_clause ∷ size_of_pair_clause ∷ []) rest_is_smaller_log rest_is_smaller_clause refl (sum_commutes, (less_than_sum, (size_of_pair, tt))) refl

pub rest_is_smaller_at : (h : History) (x : Term) → IsTerm (symbols_of h) x → Derivable h (clause ((call1 "LISTP" x) ∷ [])) → Derivable h (clause ((call2 "LESSP" (call1 "COUNT" (call1 "CDR" x)) (call1 "COUNT" x)) ∷ []))
rest_is_smaller_at h x ox d1 =
    by_law h ((call1 "LISTP" (variable "X")) ∷ []) (call2 "LESSP" (call1 "COUNT" (call1 "CDR" (variable "X"))) (call1 "COUNT" (variable "X"))) ((codes "X", x) ∷ []) (grown rest_is_smaller_clause rest_is_smaller h) (d1, tt) ((lessp_symbol h, (count_symbol h, (cdr_symbol h, ox))), (count_symbol h, ox))

pub laws_of_sizes_hold : AreDerivable laws_of_sizes
laws_of_sizes_hold h = (grown less_than_sum_clause less_than_sum h, (grown size_of_pair_clause size_of_pair h, (grown first_is_smaller_clause first_is_smaller h, (grown rest_is_smaller_clause rest_is_smaller h, tt))))
