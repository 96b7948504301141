-- Laws of ORDINALP and ORD-LESSP on numbers in the ground history, each by a log over earlier ones, and at terms of any history.
use Rattle.std.proofs.Common.{List, [], ◌∷◌, refl}
use Rattle.std.specs.Prelude.{codes}
use Rattle.nq_logic.specs.Terms.{Term, IsTerm}
use Rattle.nq_logic.specs.Words.{variable, call0, call1, call2, call3}
use Rattle.nq_logic.specs.Histories.{History}
use Rattle.nq_logic.specs.Ground.{symbols_of}
use Rattle.nq_logic.specs.Numerals.{number_of}
use Rattle.nq_logic.specs.Formulas.{clause}
use Rattle.nq_logic.specs.Derivations.{Derivable}
use Rattle.nq_proof.specs.Rules.{Taut, AxiomRow, Cut, Instance, Reflexive, Replace, Forwards, Backwards}
use Rattle.nq_proof.specs.Logs.{LogLine, Ruled}
use Rattle.nq_proof.proofs.SoundLogs.{everywhere, grown}
use Rattle.nq_proof.proofs.ByLaw.{by_law}
use Rattle.nq_laws.specs.Laws.{AreDerivable}
use Rattle.nq_logic.proofs.Symbols.{count_symbol, ord_lessp_symbol, ordinalp_symbol, sub1_symbol}
use Rattle.nq_laws.specs.Ordinals.{size_is_ordinal_clause, size_of_positive_clause, size_falls_clause, ordinal_less_is_less_clause, laws_of_ordinals}
use Rattle.nq_laws.specs.Zero.{add1_of_sub1_clause, sub1_is_number_clause, add1_is_number_clause, add1_is_not_zero_clause}
use Rattle.nq_laws.proofs.Zero.{add1_of_sub1, sub1_is_number, add1_is_number, add1_is_not_zero}

-- (ORDINALP (COUNT X))
abbrev size_is_ordinal_log : List LogLine
size_is_ordinal_log =
    Ruled (AxiomRow (codes "IF") 1 0)
    ∷ Ruled (AxiomRow (codes "CONS") 13 1)
    ∷ Ruled (AxiomRow (codes "COUNT") 1 0)
    ∷ Ruled (Instance 2 ((codes "X", (call1 "COUNT" (variable "X"))) ∷ []))
    ∷ Ruled (Cut 3 4 (call1 "NUMBERP" (call1 "COUNT" (variable "X"))))
    ∷ Ruled (AxiomRow (codes "ORDINALP") 1 0)
    ∷ Ruled (Instance 6 ((codes "X", (call1 "COUNT" (variable "X"))) ∷ []))
    ∷ Ruled (Instance 1 ((codes "X", (call1 "LISTP" (call1 "COUNT" (variable "X")))) ∷ (codes "Y", (call2 "AND" (call1 "ORDINALP" (call1 "CAR" (call1 "COUNT" (variable "X")))) (call2 "AND" (call1 "NOT" (call2 "EQUAL" (call1 "CAR" (call1 "COUNT" (variable "X"))) (call0 "ZERO"))) (call2 "AND" (call1 "ORDINALP" (call1 "CDR" (call1 "COUNT" (variable "X")))) (call2 "OR" (call1 "NOT" (call1 "LISTP" (call1 "CDR" (call1 "COUNT" (variable "X"))))) (call1 "NOT" (call2 "ORD-LESSP" (call1 "CAR" (call1 "COUNT" (variable "X"))) (call1 "CAR" (call1 "CDR" (call1 "COUNT" (variable "X"))))))))))) ∷ (codes "Z", (call1 "NUMBERP" (call1 "COUNT" (variable "X")))) ∷ []))
    ∷ Ruled (Replace 3 1 [] (call3 "IF" (call1 "LISTP" (call1 "COUNT" (variable "X"))) (call2 "AND" (call1 "ORDINALP" (call1 "CAR" (call1 "COUNT" (variable "X")))) (call2 "AND" (call1 "NOT" (call2 "EQUAL" (call1 "CAR" (call1 "COUNT" (variable "X"))) (call0 "ZERO"))) (call2 "AND" (call1 "ORDINALP" (call1 "CDR" (call1 "COUNT" (variable "X")))) (call2 "OR" (call1 "NOT" (call1 "LISTP" (call1 "CDR" (call1 "COUNT" (variable "X"))))) (call1 "NOT" (call2 "ORD-LESSP" (call1 "CAR" (call1 "COUNT" (variable "X"))) (call1 "CAR" (call1 "CDR" (call1 "COUNT" (variable "X")))))))))) (call1 "NUMBERP" (call1 "COUNT" (variable "X")))) Backwards)
    ∷ Ruled (Cut 8 9 (call2 "EQUAL" (call3 "IF" (call1 "LISTP" (call1 "COUNT" (variable "X"))) (call2 "AND" (call1 "ORDINALP" (call1 "CAR" (call1 "COUNT" (variable "X")))) (call2 "AND" (call1 "NOT" (call2 "EQUAL" (call1 "CAR" (call1 "COUNT" (variable "X"))) (call0 "ZERO"))) (call2 "AND" (call1 "ORDINALP" (call1 "CDR" (call1 "COUNT" (variable "X")))) (call2 "OR" (call1 "NOT" (call1 "LISTP" (call1 "CDR" (call1 "COUNT" (variable "X"))))) (call1 "NOT" (call2 "ORD-LESSP" (call1 "CAR" (call1 "COUNT" (variable "X"))) (call1 "CAR" (call1 "CDR" (call1 "COUNT" (variable "X")))))))))) (call1 "NUMBERP" (call1 "COUNT" (variable "X")))) (call1 "NUMBERP" (call1 "COUNT" (variable "X")))))
    ∷ Ruled (Cut 10 5 (call1 "LISTP" (call1 "COUNT" (variable "X"))))
    ∷ Ruled (Replace 11 1 [] (call1 "ORDINALP" (call1 "COUNT" (variable "X"))) Backwards)
    ∷ Ruled (Cut 7 12 (call2 "EQUAL" (call1 "ORDINALP" (call1 "COUNT" (variable "X"))) (call3 "IF" (call1 "LISTP" (call1 "COUNT" (variable "X"))) (call2 "AND" (call1 "ORDINALP" (call1 "CAR" (call1 "COUNT" (variable "X")))) (call2 "AND" (call1 "NOT" (call2 "EQUAL" (call1 "CAR" (call1 "COUNT" (variable "X"))) (call0 "ZERO"))) (call2 "AND" (call1 "ORDINALP" (call1 "CDR" (call1 "COUNT" (variable "X")))) (call2 "OR" (call1 "NOT" (call1 "LISTP" (call1 "CDR" (call1 "COUNT" (variable "X"))))) (call1 "NOT" (call2 "ORD-LESSP" (call1 "CAR" (call1 "COUNT" (variable "X"))) (call1 "CAR" (call1 "CDR" (call1 "COUNT" (variable "X")))))))))) (call1 "NUMBERP" (call1 "COUNT" (variable "X")))))) ∷ []

pub size_is_ordinal : Derivable [] (clause size_is_ordinal_clause)
unfolding symbols_of number_of
size_is_ordinal = everywhere [] size_is_ordinal_log size_is_ordinal_clause refl tt refl

pub size_is_ordinal_at : (h : History) (x : Term) → IsTerm (symbols_of h) x → Derivable h (clause ((call1 "ORDINALP" (call1 "COUNT" x)) ∷ []))
size_is_ordinal_at h x ox =
    by_law h [] (call1 "ORDINALP" (call1 "COUNT" (variable "X"))) ((codes "X", x) ∷ []) (grown size_is_ordinal_clause size_is_ordinal h) tt (ordinalp_symbol h, (count_symbol h, ox))

-- (ZEROP X), (EQUAL (COUNT X) (ADD1 (COUNT (SUB1 X))))
abbrev size_of_positive_log : List LogLine
size_of_positive_log =
    Ruled (AxiomRow (codes "IF") 2 0)
    ∷ Ruled (AxiomRow (codes "ADD1") 14 0)
    ∷ Ruled (Instance 4 ((codes "X1", (call1 "SUB1" (variable "X"))) ∷ []))
    ∷ Ruled (Replace 5 1 (1 ∷ 1 ∷ []) (variable "X") Forwards)
    ∷ Ruled (Cut 1 6 (call2 "EQUAL" (call1 "ADD1" (call1 "SUB1" (variable "X"))) (variable "X")))
    ∷ Ruled (Instance 3 ((codes "X", (call1 "NUMBERP" (call1 "SUB1" (variable "X")))) ∷ (codes "Y", (call1 "COUNT" (call1 "SUB1" (variable "X")))) ∷ (codes "Z", (call0 "ZERO")) ∷ []))
    ∷ Ruled (Reflexive (call1 "ADD1" (call1 "COUNT" (call1 "SUB1" (variable "X")))))
    ∷ Ruled (Replace 9 1 (1 ∷ 1 ∷ []) (call3 "IF" (call1 "NUMBERP" (call1 "SUB1" (variable "X"))) (call1 "COUNT" (call1 "SUB1" (variable "X"))) (call0 "ZERO")) Backwards)
    ∷ Ruled (Cut 8 10 (call2 "EQUAL" (call3 "IF" (call1 "NUMBERP" (call1 "SUB1" (variable "X"))) (call1 "COUNT" (call1 "SUB1" (variable "X"))) (call0 "ZERO")) (call1 "COUNT" (call1 "SUB1" (variable "X")))))
    ∷ Ruled (Cut 2 11 (call1 "NUMBERP" (call1 "SUB1" (variable "X"))))
    ∷ Ruled (Replace 12 1 (1 ∷ []) (call1 "COUNT" (variable "X")) Backwards)
    ∷ Ruled (Cut 7 13 (call2 "EQUAL" (call1 "COUNT" (variable "X")) (call1 "ADD1" (call3 "IF" (call1 "NUMBERP" (call1 "SUB1" (variable "X"))) (call1 "COUNT" (call1 "SUB1" (variable "X"))) (call0 "ZERO"))))) ∷ []

pub size_of_positive : Derivable [] (clause size_of_positive_clause)
unfolding symbols_of number_of
size_of_positive = everywhere (add1_of_sub1_clause ∷ sub1_is_number_clause ∷ []) size_of_positive_log size_of_positive_clause refl (add1_of_sub1, (sub1_is_number, tt)) refl

-- (NOT (NOT (ZEROP X))), (ORD-LESSP (COUNT (SUB1 X)) (COUNT X))
abbrev size_falls_log : List LogLine
size_falls_log =
    Ruled (AxiomRow (codes "ADD1") 6 1)
    ∷ Ruled (AxiomRow (codes "IF") 2 0)
    ∷ Ruled (AxiomRow (codes "FALSE") 1 0)
    ∷ Ruled (AxiomRow (codes "CONS") 13 1)
    ∷ Ruled (AxiomRow (codes "COUNT") 1 0)
    ∷ Ruled (Instance 7 ((codes "X", (call1 "COUNT" (variable "X"))) ∷ []))
    ∷ Ruled (Cut 8 9 (call1 "NUMBERP" (call1 "COUNT" (variable "X"))))
    ∷ Ruled (Instance 7 ((codes "X", (call1 "ADD1" (variable "X1"))) ∷ []))
    ∷ Ruled (Cut 1 11 (call1 "NUMBERP" (call1 "ADD1" (variable "X1"))))
    ∷ Ruled (AxiomRow (codes "LESSP") 2 0)
    ∷ Ruled (Instance 13 ((codes "X", (call1 "ADD1" (variable "X1"))) ∷ []))
    ∷ Ruled (Replace 14 2 (1 ∷ []) (variable "X1") Forwards)
    ∷ Ruled (Cut 4 15 (call2 "EQUAL" (call1 "SUB1" (call1 "ADD1" (variable "X1"))) (variable "X1")))
    ∷ Ruled (Instance 2 ((codes "X", (variable "X1")) ∷ []))
    ∷ Ruled (Replace 16 2 [] (call0 "FALSE") Forwards)
    ∷ Ruled (Cut 17 18 (call2 "EQUAL" (call1 "ZEROP" (call1 "ADD1" (variable "X1"))) (call0 "FALSE")))
    ∷ Ruled (Cut 19 6 (call0 "FALSE"))
    ∷ Ruled (Instance 20 ((codes "X1", (call1 "COUNT" (variable "X"))) ∷ []))
    ∷ Ruled (Cut 8 21 (call1 "NUMBERP" (call1 "COUNT" (variable "X"))))
    ∷ Ruled (AxiomRow (codes "ORD-LESSP") 1 0)
    ∷ Ruled (Instance 23 ((codes "X", (call1 "COUNT" (call1 "SUB1" (variable "X")))) ∷ (codes "Y", (call1 "ADD1" (call1 "COUNT" (call1 "SUB1" (variable "X"))))) ∷ []))
    ∷ Ruled (Instance 5 ((codes "X", (call1 "NOT" (call1 "LISTP" (call1 "ADD1" (call1 "COUNT" (call1 "SUB1" (variable "X"))))))) ∷ (codes "Y", (call2 "LESSP" (call1 "COUNT" (call1 "SUB1" (variable "X"))) (call1 "ADD1" (call1 "COUNT" (call1 "SUB1" (variable "X")))))) ∷ (codes "Z", (call0 "TRUE")) ∷ []))
    ∷ Ruled (Instance 5 ((codes "X", (call1 "NOT" (call1 "LISTP" (call1 "ADD1" (call1 "COUNT" (call1 "SUB1" (variable "X"))))))) ∷ (codes "Y", (call0 "FALSE")) ∷ (codes "Z", (call3 "IF" (call2 "ORD-LESSP" (call1 "CAR" (call1 "COUNT" (call1 "SUB1" (variable "X")))) (call1 "CAR" (call1 "ADD1" (call1 "COUNT" (call1 "SUB1" (variable "X")))))) (call0 "TRUE") (call2 "AND" (call2 "EQUAL" (call1 "CAR" (call1 "COUNT" (call1 "SUB1" (variable "X")))) (call1 "CAR" (call1 "ADD1" (call1 "COUNT" (call1 "SUB1" (variable "X")))))) (call2 "ORD-LESSP" (call1 "CDR" (call1 "COUNT" (call1 "SUB1" (variable "X")))) (call1 "CDR" (call1 "ADD1" (call1 "COUNT" (call1 "SUB1" (variable "X"))))))))) ∷ []))
    ∷ Ruled (Instance 5 ((codes "X", (call1 "NOT" (call1 "LISTP" (call1 "COUNT" (call1 "SUB1" (variable "X")))))) ∷ (codes "Y", (call2 "LESSP" (call1 "COUNT" (call1 "SUB1" (variable "X"))) (call1 "ADD1" (call1 "COUNT" (call1 "SUB1" (variable "X")))))) ∷ (codes "Z", (call0 "FALSE")) ∷ []))
    ∷ Ruled (Instance 22 ((codes "X", (call1 "SUB1" (variable "X"))) ∷ []))
    ∷ Ruled (Replace 28 1 [] (call3 "IF" (call1 "NOT" (call1 "LISTP" (call1 "COUNT" (call1 "SUB1" (variable "X"))))) (call2 "LESSP" (call1 "COUNT" (call1 "SUB1" (variable "X"))) (call1 "ADD1" (call1 "COUNT" (call1 "SUB1" (variable "X"))))) (call0 "FALSE")) Backwards)
    ∷ Ruled (Cut 27 29 (call2 "EQUAL" (call3 "IF" (call1 "NOT" (call1 "LISTP" (call1 "COUNT" (call1 "SUB1" (variable "X"))))) (call2 "LESSP" (call1 "COUNT" (call1 "SUB1" (variable "X"))) (call1 "ADD1" (call1 "COUNT" (call1 "SUB1" (variable "X"))))) (call0 "FALSE")) (call2 "LESSP" (call1 "COUNT" (call1 "SUB1" (variable "X"))) (call1 "ADD1" (call1 "COUNT" (call1 "SUB1" (variable "X")))))))
    ∷ Ruled (Instance 10 ((codes "X", (call1 "SUB1" (variable "X"))) ∷ []))
    ∷ Ruled (Cut 31 30 (call1 "NOT" (call1 "LISTP" (call1 "COUNT" (call1 "SUB1" (variable "X"))))))
    ∷ Ruled (Replace 32 1 (3 ∷ []) (call3 "IF" (call1 "NOT" (call1 "LISTP" (call1 "ADD1" (call1 "COUNT" (call1 "SUB1" (variable "X")))))) (call0 "FALSE") (call3 "IF" (call2 "ORD-LESSP" (call1 "CAR" (call1 "COUNT" (call1 "SUB1" (variable "X")))) (call1 "CAR" (call1 "ADD1" (call1 "COUNT" (call1 "SUB1" (variable "X")))))) (call0 "TRUE") (call2 "AND" (call2 "EQUAL" (call1 "CAR" (call1 "COUNT" (call1 "SUB1" (variable "X")))) (call1 "CAR" (call1 "ADD1" (call1 "COUNT" (call1 "SUB1" (variable "X")))))) (call2 "ORD-LESSP" (call1 "CDR" (call1 "COUNT" (call1 "SUB1" (variable "X")))) (call1 "CDR" (call1 "ADD1" (call1 "COUNT" (call1 "SUB1" (variable "X"))))))))) Backwards)
    ∷ Ruled (Cut 26 33 (call2 "EQUAL" (call3 "IF" (call1 "NOT" (call1 "LISTP" (call1 "ADD1" (call1 "COUNT" (call1 "SUB1" (variable "X")))))) (call0 "FALSE") (call3 "IF" (call2 "ORD-LESSP" (call1 "CAR" (call1 "COUNT" (call1 "SUB1" (variable "X")))) (call1 "CAR" (call1 "ADD1" (call1 "COUNT" (call1 "SUB1" (variable "X")))))) (call0 "TRUE") (call2 "AND" (call2 "EQUAL" (call1 "CAR" (call1 "COUNT" (call1 "SUB1" (variable "X")))) (call1 "CAR" (call1 "ADD1" (call1 "COUNT" (call1 "SUB1" (variable "X")))))) (call2 "ORD-LESSP" (call1 "CDR" (call1 "COUNT" (call1 "SUB1" (variable "X")))) (call1 "CDR" (call1 "ADD1" (call1 "COUNT" (call1 "SUB1" (variable "X"))))))))) (call0 "FALSE")))
    ∷ Ruled (Replace 34 2 (2 ∷ []) (call3 "IF" (call1 "NOT" (call1 "LISTP" (call1 "ADD1" (call1 "COUNT" (call1 "SUB1" (variable "X")))))) (call2 "LESSP" (call1 "COUNT" (call1 "SUB1" (variable "X"))) (call1 "ADD1" (call1 "COUNT" (call1 "SUB1" (variable "X"))))) (call0 "TRUE")) Backwards)
    ∷ Ruled (Cut 25 35 (call2 "EQUAL" (call3 "IF" (call1 "NOT" (call1 "LISTP" (call1 "ADD1" (call1 "COUNT" (call1 "SUB1" (variable "X")))))) (call2 "LESSP" (call1 "COUNT" (call1 "SUB1" (variable "X"))) (call1 "ADD1" (call1 "COUNT" (call1 "SUB1" (variable "X"))))) (call0 "TRUE")) (call2 "LESSP" (call1 "COUNT" (call1 "SUB1" (variable "X"))) (call1 "ADD1" (call1 "COUNT" (call1 "SUB1" (variable "X")))))))
    ∷ Ruled (Instance 12 ((codes "X1", (call1 "COUNT" (call1 "SUB1" (variable "X")))) ∷ []))
    ∷ Ruled (Cut 37 36 (call1 "NOT" (call1 "LISTP" (call1 "ADD1" (call1 "COUNT" (call1 "SUB1" (variable "X")))))))
    ∷ Ruled (Replace 38 1 [] (call2 "ORD-LESSP" (call1 "COUNT" (call1 "SUB1" (variable "X"))) (call1 "ADD1" (call1 "COUNT" (call1 "SUB1" (variable "X"))))) Backwards)
    ∷ Ruled (Cut 24 39 (call2 "EQUAL" (call2 "ORD-LESSP" (call1 "COUNT" (call1 "SUB1" (variable "X"))) (call1 "ADD1" (call1 "COUNT" (call1 "SUB1" (variable "X"))))) (call3 "IF" (call1 "NOT" (call1 "LISTP" (call1 "COUNT" (call1 "SUB1" (variable "X"))))) (call3 "IF" (call1 "NOT" (call1 "LISTP" (call1 "ADD1" (call1 "COUNT" (call1 "SUB1" (variable "X")))))) (call2 "LESSP" (call1 "COUNT" (call1 "SUB1" (variable "X"))) (call1 "ADD1" (call1 "COUNT" (call1 "SUB1" (variable "X"))))) (call0 "TRUE")) (call3 "IF" (call1 "NOT" (call1 "LISTP" (call1 "ADD1" (call1 "COUNT" (call1 "SUB1" (variable "X")))))) (call0 "FALSE") (call3 "IF" (call2 "ORD-LESSP" (call1 "CAR" (call1 "COUNT" (call1 "SUB1" (variable "X")))) (call1 "CAR" (call1 "ADD1" (call1 "COUNT" (call1 "SUB1" (variable "X")))))) (call0 "TRUE") (call2 "AND" (call2 "EQUAL" (call1 "CAR" (call1 "COUNT" (call1 "SUB1" (variable "X")))) (call1 "CAR" (call1 "ADD1" (call1 "COUNT" (call1 "SUB1" (variable "X")))))) (call2 "ORD-LESSP" (call1 "CDR" (call1 "COUNT" (call1 "SUB1" (variable "X")))) (call1 "CDR" (call1 "ADD1" (call1 "COUNT" (call1 "SUB1" (variable "X"))))))))))))
    ∷ Ruled (Replace 40 1 (2 ∷ []) (call1 "COUNT" (variable "X")) Backwards)
    ∷ Ruled (Cut 3 41 (call2 "EQUAL" (call1 "COUNT" (variable "X")) (call1 "ADD1" (call1 "COUNT" (call1 "SUB1" (variable "X"))))))
    ∷ Ruled (Taut ((call1 "NOT" (call1 "ZEROP" (variable "X"))) ∷ (call1 "NOT" (call1 "NOT" (call1 "ZEROP" (variable "X")))) ∷ []))
    ∷ Ruled (Cut 42 43 (call1 "ZEROP" (variable "X")))
    ∷ Ruled (Taut ((call1 "NOT" (call2 "ORD-LESSP" (call1 "COUNT" (call1 "SUB1" (variable "X"))) (call1 "COUNT" (variable "X")))) ∷ (call2 "ORD-LESSP" (call1 "COUNT" (call1 "SUB1" (variable "X"))) (call1 "COUNT" (variable "X"))) ∷ []))
    ∷ Ruled (Cut 44 45 (call2 "ORD-LESSP" (call1 "COUNT" (call1 "SUB1" (variable "X"))) (call1 "COUNT" (variable "X")))) ∷ []

pub size_falls : Derivable [] (clause size_falls_clause)
unfolding symbols_of number_of
size_falls = everywhere (add1_is_number_clause ∷ add1_is_not_zero_clause ∷ size_of_positive_clause ∷ []) size_falls_log size_falls_clause refl (add1_is_number, (add1_is_not_zero, (size_of_positive, tt))) refl

pub size_falls_at : (h : History) (x : Term) → IsTerm (symbols_of h) x → Derivable h (clause ((call1 "NOT" (call1 "ZEROP" x)) ∷ [])) → Derivable h (clause ((call2 "ORD-LESSP" (call1 "COUNT" (call1 "SUB1" x)) (call1 "COUNT" x)) ∷ []))
size_falls_at h x ox d1 =
    by_law h ((call1 "NOT" (call1 "ZEROP" (variable "X"))) ∷ []) (call2 "ORD-LESSP" (call1 "COUNT" (call1 "SUB1" (variable "X"))) (call1 "COUNT" (variable "X"))) ((codes "X", x) ∷ []) (grown size_falls_clause size_falls h) (d1, tt) ((ord_lessp_symbol h, (count_symbol h, (sub1_symbol h, ox))), (count_symbol h, ox))

-- (LISTP Y), (LISTP X), (EQUAL (ORD-LESSP X Y) (LESSP X Y))
abbrev ordinal_less_is_less_log : List LogLine
ordinal_less_is_less_log =
    Ruled (AxiomRow (codes "IF") 2 0)
    ∷ Ruled (AxiomRow (codes "ORD-LESSP") 1 0)
    ∷ Ruled (Instance 1 ((codes "X", (call1 "NOT" (call1 "LISTP" (variable "Y")))) ∷ (codes "Y", (call2 "LESSP" (variable "X") (variable "Y"))) ∷ (codes "Z", (call0 "TRUE")) ∷ []))
    ∷ Ruled (Instance 1 ((codes "X", (call1 "NOT" (call1 "LISTP" (variable "Y")))) ∷ (codes "Y", (call0 "FALSE")) ∷ (codes "Z", (call3 "IF" (call2 "ORD-LESSP" (call1 "CAR" (variable "X")) (call1 "CAR" (variable "Y"))) (call0 "TRUE") (call2 "AND" (call2 "EQUAL" (call1 "CAR" (variable "X")) (call1 "CAR" (variable "Y"))) (call2 "ORD-LESSP" (call1 "CDR" (variable "X")) (call1 "CDR" (variable "Y")))))) ∷ []))
    ∷ Ruled (Instance 1 ((codes "X", (call1 "NOT" (call1 "LISTP" (variable "X")))) ∷ (codes "Y", (call2 "LESSP" (variable "X") (variable "Y"))) ∷ (codes "Z", (call0 "FALSE")) ∷ []))
    ∷ Ruled (Reflexive (call2 "LESSP" (variable "X") (variable "Y")))
    ∷ Ruled (Replace 6 1 (1 ∷ []) (call3 "IF" (call1 "NOT" (call1 "LISTP" (variable "X"))) (call2 "LESSP" (variable "X") (variable "Y")) (call0 "FALSE")) Backwards)
    ∷ Ruled (Cut 5 7 (call2 "EQUAL" (call3 "IF" (call1 "NOT" (call1 "LISTP" (variable "X"))) (call2 "LESSP" (variable "X") (variable "Y")) (call0 "FALSE")) (call2 "LESSP" (variable "X") (variable "Y"))))
    ∷ Ruled (Taut ((call1 "LISTP" (variable "X")) ∷ (call1 "NOT" (call1 "LISTP" (variable "X"))) ∷ []))
    ∷ Ruled (Cut 9 8 (call1 "NOT" (call1 "LISTP" (variable "X"))))
    ∷ Ruled (Replace 10 2 (1 ∷ 3 ∷ []) (call3 "IF" (call1 "NOT" (call1 "LISTP" (variable "Y"))) (call0 "FALSE") (call3 "IF" (call2 "ORD-LESSP" (call1 "CAR" (variable "X")) (call1 "CAR" (variable "Y"))) (call0 "TRUE") (call2 "AND" (call2 "EQUAL" (call1 "CAR" (variable "X")) (call1 "CAR" (variable "Y"))) (call2 "ORD-LESSP" (call1 "CDR" (variable "X")) (call1 "CDR" (variable "Y")))))) Backwards)
    ∷ Ruled (Cut 4 11 (call2 "EQUAL" (call3 "IF" (call1 "NOT" (call1 "LISTP" (variable "Y"))) (call0 "FALSE") (call3 "IF" (call2 "ORD-LESSP" (call1 "CAR" (variable "X")) (call1 "CAR" (variable "Y"))) (call0 "TRUE") (call2 "AND" (call2 "EQUAL" (call1 "CAR" (variable "X")) (call1 "CAR" (variable "Y"))) (call2 "ORD-LESSP" (call1 "CDR" (variable "X")) (call1 "CDR" (variable "Y")))))) (call0 "FALSE")))
    ∷ Ruled (Replace 12 3 (1 ∷ 2 ∷ []) (call3 "IF" (call1 "NOT" (call1 "LISTP" (variable "Y"))) (call2 "LESSP" (variable "X") (variable "Y")) (call0 "TRUE")) Backwards)
    ∷ Ruled (Cut 3 13 (call2 "EQUAL" (call3 "IF" (call1 "NOT" (call1 "LISTP" (variable "Y"))) (call2 "LESSP" (variable "X") (variable "Y")) (call0 "TRUE")) (call2 "LESSP" (variable "X") (variable "Y"))))
    ∷ Ruled (Taut ((call1 "LISTP" (variable "Y")) ∷ (call1 "NOT" (call1 "LISTP" (variable "Y"))) ∷ []))
    ∷ Ruled (Cut 15 14 (call1 "NOT" (call1 "LISTP" (variable "Y"))))
    ∷ Ruled (Replace 16 3 (1 ∷ []) (call2 "ORD-LESSP" (variable "X") (variable "Y")) Backwards)
    ∷ Ruled (Cut 2 17 (call2 "EQUAL" (call2 "ORD-LESSP" (variable "X") (variable "Y")) (call3 "IF" (call1 "NOT" (call1 "LISTP" (variable "X"))) (call3 "IF" (call1 "NOT" (call1 "LISTP" (variable "Y"))) (call2 "LESSP" (variable "X") (variable "Y")) (call0 "TRUE")) (call3 "IF" (call1 "NOT" (call1 "LISTP" (variable "Y"))) (call0 "FALSE") (call3 "IF" (call2 "ORD-LESSP" (call1 "CAR" (variable "X")) (call1 "CAR" (variable "Y"))) (call0 "TRUE") (call2 "AND" (call2 "EQUAL" (call1 "CAR" (variable "X")) (call1 "CAR" (variable "Y"))) (call2 "ORD-LESSP" (call1 "CDR" (variable "X")) (call1 "CDR" (variable "Y"))))))))) ∷ []

pub ordinal_less_is_less : Derivable [] (clause ordinal_less_is_less_clause)
unfolding symbols_of number_of
ordinal_less_is_less = everywhere [] ordinal_less_is_less_log ordinal_less_is_less_clause refl tt refl

pub laws_of_ordinals_hold : AreDerivable laws_of_ordinals
laws_of_ordinals_hold h = (grown size_is_ordinal_clause size_is_ordinal h, (grown size_of_positive_clause size_of_positive h, (grown size_falls_clause size_falls h, (grown ordinal_less_is_less_clause ordinal_less_is_less h, tt))))
