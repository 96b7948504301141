-- Laws of values of one kind that differ in the ground history, each by a log over earlier ones, and at terms of any history.
use Rattle.std.proofs.Common.{List, [], ◌∷◌, refl}
use Rattle.std.specs.Prelude.{codes}
use Rattle.nq_logic.specs.Terms.{Term, IsTerm}
use Rattle.nq_logic.specs.Words.{variable, call0, call1, call2}
use Rattle.nq_logic.specs.Histories.{History}
use Rattle.nq_logic.specs.Ground.{symbols_of}
use Rattle.nq_logic.specs.Numerals.{number_of}
use Rattle.nq_logic.specs.Formulas.{clause}
use Rattle.nq_logic.specs.Derivations.{Derivable}
use Rattle.nq_proof.specs.Rules.{Taut, AxiomRow, Cut, Instance, Reflexive, Replace, Forwards}
use Rattle.nq_proof.specs.Logs.{LogLine, Ruled}
use Rattle.nq_proof.proofs.SoundLogs.{everywhere, grown}
use Rattle.nq_proof.proofs.ByLaw.{by_law}
use Rattle.nq_laws.specs.Laws.{AreDerivable}
use Rattle.nq_logic.proofs.Symbols.{add1_symbol, cons_symbol, equal_symbol, false_symbol, minus_symbol, not_symbol, pack_symbol, zero_symbol}
use Rattle.nq_laws.specs.Distinct.{zero_is_no_add1_clause, zero_differs_from_add1_clause, add1_differs_from_zero_clause, add1s_differ_clause, firsts_differ_clause, rests_differ_clause, atoms_differ_clause, negatives_differ_clause, laws_of_distinct}

-- (NOT (EQUAL 0 (ADD1 X1)))
abbrev zero_is_no_add1_log : List LogLine
zero_is_no_add1_log =
    Ruled (AxiomRow (codes "ADD1") 4 0)
    ∷ Ruled (Reflexive (call0 "ZERO"))
    ∷ Ruled (Replace 2 1 (1 ∷ []) (call1 "ADD1" (variable "X1")) Forwards)
    ∷ Ruled (Cut 3 1 (call2 "EQUAL" (call1 "ADD1" (variable "X1")) (call0 "ZERO"))) ∷ []

pub zero_is_no_add1 : Derivable [] (clause zero_is_no_add1_clause)
unfolding symbols_of number_of
zero_is_no_add1 = everywhere [] zero_is_no_add1_log zero_is_no_add1_clause refl tt refl

pub zero_is_no_add1_at : (h : History) (x1 : Term) → IsTerm (symbols_of h) x1 → Derivable h (clause ((call1 "NOT" (call2 "EQUAL" (call0 "ZERO") (call1 "ADD1" x1))) ∷ []))
zero_is_no_add1_at h x1 ox1 =
    by_law h [] (call1 "NOT" (call2 "EQUAL" (call0 "ZERO") (call1 "ADD1" (variable "X1")))) ((codes "X1", x1) ∷ []) (grown zero_is_no_add1_clause zero_is_no_add1 h) tt (not_symbol h, ((equal_symbol h, (zero_symbol h)), (add1_symbol h, ox1)))

-- (EQUAL (EQUAL 0 (ADD1 X1)) F)
abbrev zero_differs_from_add1_log : List LogLine
zero_differs_from_add1_log =
    Ruled (AxiomRow (codes "FALSE") 2 0)
    ∷ Ruled (Instance 2 ((codes "X", (call2 "EQUAL" (call0 "ZERO") (call1 "ADD1" (variable "X1")))) ∷ []))
    ∷ Ruled (Cut 3 1 (call2 "EQUAL" (call0 "ZERO") (call1 "ADD1" (variable "X1")))) ∷ []

pub zero_differs_from_add1 : Derivable [] (clause zero_differs_from_add1_clause)
unfolding symbols_of number_of
zero_differs_from_add1 = everywhere (zero_is_no_add1_clause ∷ []) zero_differs_from_add1_log zero_differs_from_add1_clause refl (zero_is_no_add1, tt) refl

pub zero_differs_from_add1_at : (h : History) (x1 : Term) → IsTerm (symbols_of h) x1 → Derivable h (clause ((call2 "EQUAL" (call2 "EQUAL" (call0 "ZERO") (call1 "ADD1" x1)) (call0 "FALSE")) ∷ []))
zero_differs_from_add1_at h x1 ox1 =
    by_law h [] (call2 "EQUAL" (call2 "EQUAL" (call0 "ZERO") (call1 "ADD1" (variable "X1"))) (call0 "FALSE")) ((codes "X1", x1) ∷ []) (grown zero_differs_from_add1_clause zero_differs_from_add1 h) tt ((equal_symbol h, ((equal_symbol h, (zero_symbol h)), (add1_symbol h, ox1))), (false_symbol h))

-- (EQUAL (EQUAL (ADD1 X1) 0) F)
abbrev add1_differs_from_zero_log : List LogLine
add1_differs_from_zero_log =
    Ruled (AxiomRow (codes "ADD1") 4 0)
    ∷ Ruled (AxiomRow (codes "FALSE") 2 0)
    ∷ Ruled (Instance 2 ((codes "X", (call2 "EQUAL" (call1 "ADD1" (variable "X1")) (call0 "ZERO"))) ∷ []))
    ∷ Ruled (Cut 3 1 (call2 "EQUAL" (call1 "ADD1" (variable "X1")) (call0 "ZERO"))) ∷ []

pub add1_differs_from_zero : Derivable [] (clause add1_differs_from_zero_clause)
unfolding symbols_of number_of
add1_differs_from_zero = everywhere [] add1_differs_from_zero_log add1_differs_from_zero_clause refl tt refl

pub add1_differs_from_zero_at : (h : History) (x1 : Term) → IsTerm (symbols_of h) x1 → Derivable h (clause ((call2 "EQUAL" (call2 "EQUAL" (call1 "ADD1" x1) (call0 "ZERO")) (call0 "FALSE")) ∷ []))
add1_differs_from_zero_at h x1 ox1 =
    by_law h [] (call2 "EQUAL" (call2 "EQUAL" (call1 "ADD1" (variable "X1")) (call0 "ZERO")) (call0 "FALSE")) ((codes "X1", x1) ∷ []) (grown add1_differs_from_zero_clause add1_differs_from_zero h) tt ((equal_symbol h, ((equal_symbol h, (add1_symbol h, ox1)), (zero_symbol h))), (false_symbol h))

-- (NOT (NUMBERP B)), (NOT (NUMBERP A)), (NOT (EQUAL (EQUAL A B) F)), (EQUAL (EQUAL (ADD1 A) (ADD1 B)) F)
abbrev add1s_differ_log : List LogLine
add1s_differ_log =
    Ruled (AxiomRow (codes "ADD1") 6 1)
    ∷ Ruled (AxiomRow (codes "FALSE") 1 0)
    ∷ Ruled (Reflexive (variable "B"))
    ∷ Ruled (Instance 1 ((codes "X1", (variable "A")) ∷ []))
    ∷ Ruled (AxiomRow (codes "FALSE") 2 0)
    ∷ Ruled (Instance 1 ((codes "X1", (variable "B")) ∷ []))
    ∷ Ruled (Replace 4 2 (1 ∷ 1 ∷ []) (call1 "ADD1" (variable "B")) Forwards)
    ∷ Ruled (Replace 7 2 (1 ∷ []) (variable "B") Forwards)
    ∷ Ruled (Cut 6 8 (call2 "EQUAL" (call1 "SUB1" (call1 "ADD1" (variable "B"))) (variable "B")))
    ∷ Ruled (Replace 3 1 (1 ∷ []) (variable "A") Forwards)
    ∷ Ruled (Cut 9 10 (call2 "EQUAL" (variable "B") (variable "A")))
    ∷ Ruled (Taut ((call2 "EQUAL" (variable "A") (variable "B")) ∷ (call1 "NOT" (call2 "EQUAL" (variable "A") (variable "B"))) ∷ []))
    ∷ Ruled (Replace 12 1 [] (call0 "FALSE") Forwards)
    ∷ Ruled (Cut 13 2 (call0 "FALSE"))
    ∷ Ruled (Cut 11 14 (call2 "EQUAL" (variable "A") (variable "B")))
    ∷ Ruled (Instance 5 ((codes "X", (call2 "EQUAL" (call1 "ADD1" (variable "A")) (call1 "ADD1" (variable "B")))) ∷ []))
    ∷ Ruled (Cut 16 15 (call2 "EQUAL" (call1 "ADD1" (variable "A")) (call1 "ADD1" (variable "B"))))
    ∷ Ruled (Taut ((call1 "NOT" (call2 "EQUAL" (call2 "EQUAL" (call1 "ADD1" (variable "A")) (call1 "ADD1" (variable "B"))) (call0 "FALSE"))) ∷ (call2 "EQUAL" (call2 "EQUAL" (call1 "ADD1" (variable "A")) (call1 "ADD1" (variable "B"))) (call0 "FALSE")) ∷ []))
    ∷ Ruled (Cut 17 18 (call2 "EQUAL" (call2 "EQUAL" (call1 "ADD1" (variable "A")) (call1 "ADD1" (variable "B"))) (call0 "FALSE"))) ∷ []

pub add1s_differ : Derivable [] (clause add1s_differ_clause)
unfolding symbols_of number_of
add1s_differ = everywhere [] add1s_differ_log add1s_differ_clause refl tt refl

pub add1s_differ_at : (h : History) (a b : Term) → IsTerm (symbols_of h) a → IsTerm (symbols_of h) b → Derivable h (clause ((call1 "NUMBERP" a) ∷ [])) → Derivable h (clause ((call1 "NUMBERP" b) ∷ [])) → Derivable h (clause ((call2 "EQUAL" (call2 "EQUAL" a b) (call0 "FALSE")) ∷ [])) → Derivable h (clause ((call2 "EQUAL" (call2 "EQUAL" (call1 "ADD1" a) (call1 "ADD1" b)) (call0 "FALSE")) ∷ []))
add1s_differ_at h a b oa ob d1 d2 d3 =
    by_law h ((call1 "NUMBERP" (variable "B")) ∷ (call1 "NUMBERP" (variable "A")) ∷ (call2 "EQUAL" (call2 "EQUAL" (variable "A") (variable "B")) (call0 "FALSE")) ∷ []) (call2 "EQUAL" (call2 "EQUAL" (call1 "ADD1" (variable "A")) (call1 "ADD1" (variable "B"))) (call0 "FALSE")) ((codes "A", a) ∷ (codes "B", b) ∷ []) (grown add1s_differ_clause add1s_differ h) (d2, (d1, (d3, tt))) ((equal_symbol h, ((equal_symbol h, (add1_symbol h, oa)), (add1_symbol h, ob))), (false_symbol h))

-- (NOT (EQUAL (EQUAL A C) F)), (EQUAL (EQUAL (CONS A B) (CONS C D)) F)
abbrev firsts_differ_log : List LogLine
firsts_differ_log =
    Ruled (AxiomRow (codes "TRUE") 1 0)
    ∷ Ruled (AxiomRow (codes "FALSE") 1 0)
    ∷ Ruled (AxiomRow (codes "FALSE") 2 0)
    ∷ Ruled (AxiomRow (codes "CONS") 6 1)
    ∷ Ruled (Instance 4 ((codes "X1", (variable "A")) ∷ (codes "X2", (variable "B")) ∷ []))
    ∷ Ruled (Instance 4 ((codes "X1", (variable "C")) ∷ (codes "X2", (variable "D")) ∷ []))
    ∷ Ruled (Cut 1 5 (call0 "TRUE"))
    ∷ Ruled (Cut 1 6 (call0 "TRUE"))
    ∷ Ruled (Replace 7 1 (1 ∷ 1 ∷ []) (call2 "CONS" (variable "C") (variable "D")) Forwards)
    ∷ Ruled (Replace 9 1 (1 ∷ []) (variable "C") Forwards)
    ∷ Ruled (Cut 8 10 (call2 "EQUAL" (call1 "CAR" (call2 "CONS" (variable "C") (variable "D"))) (variable "C")))
    ∷ Ruled (Reflexive (variable "C"))
    ∷ Ruled (Replace 12 1 (1 ∷ []) (variable "A") Forwards)
    ∷ Ruled (Cut 11 13 (call2 "EQUAL" (variable "C") (variable "A")))
    ∷ Ruled (Taut ((call2 "EQUAL" (variable "A") (variable "C")) ∷ (call1 "NOT" (call2 "EQUAL" (variable "A") (variable "C"))) ∷ []))
    ∷ Ruled (Replace 15 1 [] (call0 "FALSE") Forwards)
    ∷ Ruled (Cut 16 2 (call0 "FALSE"))
    ∷ Ruled (Cut 14 17 (call2 "EQUAL" (variable "A") (variable "C")))
    ∷ Ruled (Instance 3 ((codes "X", (call2 "EQUAL" (call2 "CONS" (variable "A") (variable "B")) (call2 "CONS" (variable "C") (variable "D")))) ∷ []))
    ∷ Ruled (Cut 19 18 (call2 "EQUAL" (call2 "CONS" (variable "A") (variable "B")) (call2 "CONS" (variable "C") (variable "D"))))
    ∷ Ruled (Taut ((call1 "NOT" (call2 "EQUAL" (call2 "EQUAL" (call2 "CONS" (variable "A") (variable "B")) (call2 "CONS" (variable "C") (variable "D"))) (call0 "FALSE"))) ∷ (call2 "EQUAL" (call2 "EQUAL" (call2 "CONS" (variable "A") (variable "B")) (call2 "CONS" (variable "C") (variable "D"))) (call0 "FALSE")) ∷ []))
    ∷ Ruled (Cut 20 21 (call2 "EQUAL" (call2 "EQUAL" (call2 "CONS" (variable "A") (variable "B")) (call2 "CONS" (variable "C") (variable "D"))) (call0 "FALSE"))) ∷ []

pub firsts_differ : Derivable [] (clause firsts_differ_clause)
unfolding symbols_of number_of
firsts_differ = everywhere [] firsts_differ_log firsts_differ_clause refl tt refl

pub firsts_differ_at : (h : History) (a b c d : Term) → IsTerm (symbols_of h) a → IsTerm (symbols_of h) b → IsTerm (symbols_of h) c → IsTerm (symbols_of h) d → Derivable h (clause ((call2 "EQUAL" (call2 "EQUAL" a c) (call0 "FALSE")) ∷ [])) → Derivable h (clause ((call2 "EQUAL" (call2 "EQUAL" (call2 "CONS" a b) (call2 "CONS" c d)) (call0 "FALSE")) ∷ []))
firsts_differ_at h a b c d oa ob oc od d1 =
    by_law h ((call2 "EQUAL" (call2 "EQUAL" (variable "A") (variable "C")) (call0 "FALSE")) ∷ []) (call2 "EQUAL" (call2 "EQUAL" (call2 "CONS" (variable "A") (variable "B")) (call2 "CONS" (variable "C") (variable "D"))) (call0 "FALSE")) ((codes "A", a) ∷ (codes "B", b) ∷ (codes "C", c) ∷ (codes "D", d) ∷ []) (grown firsts_differ_clause firsts_differ h) (d1, tt) ((equal_symbol h, ((equal_symbol h, ((cons_symbol h, oa), ob)), ((cons_symbol h, oc), od))), (false_symbol h))

-- (NOT (EQUAL (EQUAL B D) F)), (EQUAL (EQUAL (CONS A B) (CONS C D)) F)
abbrev rests_differ_log : List LogLine
rests_differ_log =
    Ruled (AxiomRow (codes "TRUE") 1 0)
    ∷ Ruled (AxiomRow (codes "FALSE") 1 0)
    ∷ Ruled (Reflexive (variable "D"))
    ∷ Ruled (AxiomRow (codes "FALSE") 2 0)
    ∷ Ruled (Instance 4 ((codes "X", (call2 "EQUAL" (call2 "CONS" (variable "A") (variable "B")) (call2 "CONS" (variable "C") (variable "D")))) ∷ []))
    ∷ Ruled (Taut ((call1 "NOT" (call2 "EQUAL" (call2 "EQUAL" (call2 "CONS" (variable "A") (variable "B")) (call2 "CONS" (variable "C") (variable "D"))) (call0 "FALSE"))) ∷ (call2 "EQUAL" (call2 "EQUAL" (call2 "CONS" (variable "A") (variable "B")) (call2 "CONS" (variable "C") (variable "D"))) (call0 "FALSE")) ∷ []))
    ∷ Ruled (AxiomRow (codes "CONS") 6 2)
    ∷ Ruled (Instance 7 ((codes "X1", (variable "A")) ∷ (codes "X2", (variable "B")) ∷ []))
    ∷ Ruled (Instance 7 ((codes "X1", (variable "C")) ∷ (codes "X2", (variable "D")) ∷ []))
    ∷ Ruled (Cut 1 8 (call0 "TRUE"))
    ∷ Ruled (Cut 1 9 (call0 "TRUE"))
    ∷ Ruled (Replace 10 1 (1 ∷ 1 ∷ []) (call2 "CONS" (variable "C") (variable "D")) Forwards)
    ∷ Ruled (Replace 12 1 (1 ∷ []) (variable "D") Forwards)
    ∷ Ruled (Cut 11 13 (call2 "EQUAL" (call1 "CDR" (call2 "CONS" (variable "C") (variable "D"))) (variable "D")))
    ∷ Ruled (Replace 3 1 (1 ∷ []) (variable "B") Forwards)
    ∷ Ruled (Cut 14 15 (call2 "EQUAL" (variable "D") (variable "B")))
    ∷ Ruled (Taut ((call2 "EQUAL" (variable "B") (variable "D")) ∷ (call1 "NOT" (call2 "EQUAL" (variable "B") (variable "D"))) ∷ []))
    ∷ Ruled (Replace 17 1 [] (call0 "FALSE") Forwards)
    ∷ Ruled (Cut 18 2 (call0 "FALSE"))
    ∷ Ruled (Cut 16 19 (call2 "EQUAL" (variable "B") (variable "D")))
    ∷ Ruled (Cut 5 20 (call2 "EQUAL" (call2 "CONS" (variable "A") (variable "B")) (call2 "CONS" (variable "C") (variable "D"))))
    ∷ Ruled (Cut 21 6 (call2 "EQUAL" (call2 "EQUAL" (call2 "CONS" (variable "A") (variable "B")) (call2 "CONS" (variable "C") (variable "D"))) (call0 "FALSE"))) ∷ []

pub rests_differ : Derivable [] (clause rests_differ_clause)
unfolding symbols_of number_of
rests_differ = everywhere [] rests_differ_log rests_differ_clause refl tt refl

pub rests_differ_at : (h : History) (a b c d : Term) → IsTerm (symbols_of h) a → IsTerm (symbols_of h) b → IsTerm (symbols_of h) c → IsTerm (symbols_of h) d → Derivable h (clause ((call2 "EQUAL" (call2 "EQUAL" b d) (call0 "FALSE")) ∷ [])) → Derivable h (clause ((call2 "EQUAL" (call2 "EQUAL" (call2 "CONS" a b) (call2 "CONS" c d)) (call0 "FALSE")) ∷ []))
rests_differ_at h a b c d oa ob oc od d1 =
    by_law h ((call2 "EQUAL" (call2 "EQUAL" (variable "B") (variable "D")) (call0 "FALSE")) ∷ []) (call2 "EQUAL" (call2 "EQUAL" (call2 "CONS" (variable "A") (variable "B")) (call2 "CONS" (variable "C") (variable "D"))) (call0 "FALSE")) ((codes "A", a) ∷ (codes "B", b) ∷ (codes "C", c) ∷ (codes "D", d) ∷ []) (grown rests_differ_clause rests_differ h) (d1, tt) ((equal_symbol h, ((equal_symbol h, ((cons_symbol h, oa), ob)), ((cons_symbol h, oc), od))), (false_symbol h))

-- (NOT (EQUAL (EQUAL A B) F)), (EQUAL (EQUAL (PACK A) (PACK B)) F)
abbrev atoms_differ_log : List LogLine
atoms_differ_log =
    Ruled (AxiomRow (codes "TRUE") 1 0)
    ∷ Ruled (AxiomRow (codes "FALSE") 1 0)
    ∷ Ruled (Reflexive (variable "B"))
    ∷ Ruled (AxiomRow (codes "FALSE") 2 0)
    ∷ Ruled (Replace 3 1 (1 ∷ []) (variable "A") Forwards)
    ∷ Ruled (Taut ((call2 "EQUAL" (variable "A") (variable "B")) ∷ (call1 "NOT" (call2 "EQUAL" (variable "A") (variable "B"))) ∷ []))
    ∷ Ruled (Replace 6 1 [] (call0 "FALSE") Forwards)
    ∷ Ruled (Cut 7 2 (call0 "FALSE"))
    ∷ Ruled (AxiomRow (codes "PACK") 6 1)
    ∷ Ruled (Instance 9 ((codes "X1", (variable "A")) ∷ []))
    ∷ Ruled (Instance 9 ((codes "X1", (variable "B")) ∷ []))
    ∷ Ruled (Cut 1 10 (call0 "TRUE"))
    ∷ Ruled (Cut 1 11 (call0 "TRUE"))
    ∷ Ruled (Replace 12 1 (1 ∷ 1 ∷ []) (call1 "PACK" (variable "B")) Forwards)
    ∷ Ruled (Replace 14 1 (1 ∷ []) (variable "B") Forwards)
    ∷ Ruled (Cut 13 15 (call2 "EQUAL" (call1 "UNPACK" (call1 "PACK" (variable "B"))) (variable "B")))
    ∷ Ruled (Cut 16 5 (call2 "EQUAL" (variable "B") (variable "A")))
    ∷ Ruled (Cut 17 8 (call2 "EQUAL" (variable "A") (variable "B")))
    ∷ Ruled (Instance 4 ((codes "X", (call2 "EQUAL" (call1 "PACK" (variable "A")) (call1 "PACK" (variable "B")))) ∷ []))
    ∷ Ruled (Cut 19 18 (call2 "EQUAL" (call1 "PACK" (variable "A")) (call1 "PACK" (variable "B"))))
    ∷ Ruled (Taut ((call1 "NOT" (call2 "EQUAL" (call2 "EQUAL" (call1 "PACK" (variable "A")) (call1 "PACK" (variable "B"))) (call0 "FALSE"))) ∷ (call2 "EQUAL" (call2 "EQUAL" (call1 "PACK" (variable "A")) (call1 "PACK" (variable "B"))) (call0 "FALSE")) ∷ []))
    ∷ Ruled (Cut 20 21 (call2 "EQUAL" (call2 "EQUAL" (call1 "PACK" (variable "A")) (call1 "PACK" (variable "B"))) (call0 "FALSE"))) ∷ []

pub atoms_differ : Derivable [] (clause atoms_differ_clause)
unfolding symbols_of number_of
atoms_differ = everywhere [] atoms_differ_log atoms_differ_clause refl tt refl

pub atoms_differ_at : (h : History) (a b : Term) → IsTerm (symbols_of h) a → IsTerm (symbols_of h) b → Derivable h (clause ((call2 "EQUAL" (call2 "EQUAL" a b) (call0 "FALSE")) ∷ [])) → Derivable h (clause ((call2 "EQUAL" (call2 "EQUAL" (call1 "PACK" a) (call1 "PACK" b)) (call0 "FALSE")) ∷ []))
atoms_differ_at h a b oa ob d1 =
    by_law h ((call2 "EQUAL" (call2 "EQUAL" (variable "A") (variable "B")) (call0 "FALSE")) ∷ []) (call2 "EQUAL" (call2 "EQUAL" (call1 "PACK" (variable "A")) (call1 "PACK" (variable "B"))) (call0 "FALSE")) ((codes "A", a) ∷ (codes "B", b) ∷ []) (grown atoms_differ_clause atoms_differ h) (d1, tt) ((equal_symbol h, ((equal_symbol h, (pack_symbol h, oa)), (pack_symbol h, ob))), (false_symbol h))

-- (NOT (NUMBERP B)), (NOT (NUMBERP A)), (NOT (EQUAL (EQUAL A B) F)), (EQUAL (EQUAL (MINUS A) (MINUS B)) F)
abbrev negatives_differ_log : List LogLine
negatives_differ_log =
    Ruled (AxiomRow (codes "FALSE") 1 0)
    ∷ Ruled (Reflexive (variable "B"))
    ∷ Ruled (AxiomRow (codes "FALSE") 2 0)
    ∷ Ruled (Replace 2 1 (1 ∷ []) (variable "A") Forwards)
    ∷ Ruled (Taut ((call2 "EQUAL" (variable "A") (variable "B")) ∷ (call1 "NOT" (call2 "EQUAL" (variable "A") (variable "B"))) ∷ []))
    ∷ Ruled (Replace 5 1 [] (call0 "FALSE") Forwards)
    ∷ Ruled (Cut 6 1 (call0 "FALSE"))
    ∷ Ruled (AxiomRow (codes "MINUS") 6 1)
    ∷ Ruled (Instance 8 ((codes "X1", (variable "A")) ∷ []))
    ∷ Ruled (Instance 8 ((codes "X1", (variable "B")) ∷ []))
    ∷ Ruled (Replace 9 2 (1 ∷ 1 ∷ []) (call1 "MINUS" (variable "B")) Forwards)
    ∷ Ruled (Replace 11 2 (1 ∷ []) (variable "B") Forwards)
    ∷ Ruled (Cut 10 12 (call2 "EQUAL" (call1 "NEGATIVE-GUTS" (call1 "MINUS" (variable "B"))) (variable "B")))
    ∷ Ruled (Cut 13 4 (call2 "EQUAL" (variable "B") (variable "A")))
    ∷ Ruled (Cut 14 7 (call2 "EQUAL" (variable "A") (variable "B")))
    ∷ Ruled (Instance 3 ((codes "X", (call2 "EQUAL" (call1 "MINUS" (variable "A")) (call1 "MINUS" (variable "B")))) ∷ []))
    ∷ Ruled (Cut 16 15 (call2 "EQUAL" (call1 "MINUS" (variable "A")) (call1 "MINUS" (variable "B"))))
    ∷ Ruled (Taut ((call1 "NOT" (call2 "EQUAL" (call2 "EQUAL" (call1 "MINUS" (variable "A")) (call1 "MINUS" (variable "B"))) (call0 "FALSE"))) ∷ (call2 "EQUAL" (call2 "EQUAL" (call1 "MINUS" (variable "A")) (call1 "MINUS" (variable "B"))) (call0 "FALSE")) ∷ []))
    ∷ Ruled (Cut 17 18 (call2 "EQUAL" (call2 "EQUAL" (call1 "MINUS" (variable "A")) (call1 "MINUS" (variable "B"))) (call0 "FALSE"))) ∷ []

pub negatives_differ : Derivable [] (clause negatives_differ_clause)
unfolding symbols_of number_of
negatives_differ = everywhere [] negatives_differ_log negatives_differ_clause refl tt refl

pub negatives_differ_at : (h : History) (a b : Term) → IsTerm (symbols_of h) a → IsTerm (symbols_of h) b → Derivable h (clause ((call1 "NUMBERP" a) ∷ [])) → Derivable h (clause ((call1 "NUMBERP" b) ∷ [])) → Derivable h (clause ((call2 "EQUAL" (call2 "EQUAL" a b) (call0 "FALSE")) ∷ [])) → Derivable h (clause ((call2 "EQUAL" (call2 "EQUAL" (call1 "MINUS" a) (call1 "MINUS" b)) (call0 "FALSE")) ∷ []))
negatives_differ_at h a b oa ob d1 d2 d3 =
    by_law h ((call1 "NUMBERP" (variable "B")) ∷ (call1 "NUMBERP" (variable "A")) ∷ (call2 "EQUAL" (call2 "EQUAL" (variable "A") (variable "B")) (call0 "FALSE")) ∷ []) (call2 "EQUAL" (call2 "EQUAL" (call1 "MINUS" (variable "A")) (call1 "MINUS" (variable "B"))) (call0 "FALSE")) ((codes "A", a) ∷ (codes "B", b) ∷ []) (grown negatives_differ_clause negatives_differ h) (d2, (d1, (d3, tt))) ((equal_symbol h, ((equal_symbol h, (minus_symbol h, oa)), (minus_symbol h, ob))), (false_symbol h))

pub laws_of_distinct_hold : AreDerivable laws_of_distinct
laws_of_distinct_hold h = (grown zero_is_no_add1_clause zero_is_no_add1 h, (grown zero_differs_from_add1_clause zero_differs_from_add1 h, (grown add1_differs_from_zero_clause add1_differs_from_zero h, (grown add1s_differ_clause add1s_differ h, (grown firsts_differ_clause firsts_differ h, (grown rests_differ_clause rests_differ h, (grown atoms_differ_clause atoms_differ h, (grown negatives_differ_clause negatives_differ h, tt))))))))
