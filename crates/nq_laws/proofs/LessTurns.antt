-- Laws of LESSP turned into the other order in the ground history, each by a log over earlier ones, and at terms of any history.
use Rattle.std.proofs.Common.{List, [], ◌∷◌, refl}
use Rattle.std.specs.Prelude.{codes}
use Rattle.nq_logic.specs.Terms.{Term, IsTerm}
use Rattle.nq_logic.specs.Words.{variable, call0, call1, call2, call3}
use Rattle.nq_logic.specs.Histories.{History}
use Rattle.nq_logic.specs.Ground.{symbols_of}
use Rattle.nq_logic.specs.Numerals.{number_of}
use Rattle.nq_logic.specs.Formulas.{clause}
use Rattle.nq_logic.specs.Derivations.{Derivable}
use Rattle.nq_proof.specs.Rules.{Taut, AxiomRow, Cut, Instance, Reflexive, Replace, Induct, Forwards, Backwards}
use Rattle.nq_proof.specs.Logs.{LogLine, Ruled}
use Rattle.nq_proof.proofs.SoundLogs.{everywhere, grown}
use Rattle.nq_proof.proofs.ByLaw.{by_law}
use Rattle.nq_laws.specs.Laws.{AreDerivable}
use Rattle.nq_logic.proofs.Symbols.{add1_symbol, equal_symbol, fix_symbol, implies_symbol, lessp_symbol, not_symbol, sub1_symbol}
use Rattle.nq_laws.specs.LessTurns.{less_with_fix_clause, sub1_of_any_add1_clause, less_than_add1_clause, less_turns_as_term_clause, less_turns_clause, laws_of_less_turns}
use Rattle.nq_laws.specs.Zero.{fix_of_zero_clause, fix_of_positive_clause, add1_is_not_zero_clause, add1_of_sub1_clause}
use Rattle.nq_laws.proofs.Zero.{fix_of_zero, fix_of_positive, add1_is_not_zero, add1_of_sub1}
use Rattle.nq_laws.specs.Ordinals.{size_is_ordinal_clause, size_falls_clause}
use Rattle.nq_laws.proofs.Ordinals.{size_is_ordinal, size_falls}
use Rattle.nq_laws.specs.Less.{less_than_zero_clause, nothing_less_than_zero_clause, less_of_positives_clause}
use Rattle.nq_laws.proofs.Less.{less_than_zero, nothing_less_than_zero, less_of_positives}
use Rattle.nq_laws.specs.Parts.{sub1_of_add1_clause}
use Rattle.nq_laws.proofs.Parts.{sub1_of_add1}
use Rattle.nq_laws.specs.Connectives.{if_of_truth_clause, truth_is_true_clause}
use Rattle.nq_laws.proofs.Connectives.{if_of_truth, truth_is_true}

-- (EQUAL (LESSP X (FIX Y)) (LESSP X Y))
abbrev less_with_fix_log : List LogLine
less_with_fix_log =
    Ruled (Reflexive (call0 "FALSE"))
    ∷ Ruled (Instance 1 ((codes "X", (variable "Y")) ∷ []))
    ∷ Ruled (Reflexive (call2 "LESSP" (variable "X") (variable "Y")))
    ∷ Ruled (Replace 5 1 (2 ∷ []) (call2 "LESSP" (variable "X") (variable "Y")) Backwards)
    ∷ Ruled (Cut 3 8 (call2 "EQUAL" (call2 "LESSP" (variable "X") (variable "Y")) (call0 "FALSE")))
    ∷ Ruled (Replace 9 2 (1 ∷ []) (call2 "LESSP" (variable "X") (call0 "ZERO")) Backwards)
    ∷ Ruled (Cut 4 10 (call2 "EQUAL" (call2 "LESSP" (variable "X") (call0 "ZERO")) (call0 "FALSE")))
    ∷ Ruled (Replace 11 2 (1 ∷ 2 ∷ []) (call1 "FIX" (variable "Y")) Backwards)
    ∷ Ruled (Cut 6 12 (call2 "EQUAL" (call1 "FIX" (variable "Y")) (call0 "ZERO")))
    ∷ Ruled (Instance 2 ((codes "X", (variable "Y")) ∷ []))
    ∷ Ruled (Replace 7 1 (1 ∷ 2 ∷ []) (call1 "FIX" (variable "Y")) Backwards)
    ∷ Ruled (Cut 14 15 (call2 "EQUAL" (call1 "FIX" (variable "Y")) (variable "Y")))
    ∷ Ruled (Cut 16 13 (call1 "ZEROP" (variable "Y"))) ∷ []

pub less_with_fix : Derivable [] (clause less_with_fix_clause)
unfolding symbols_of number_of
less_with_fix = everywhere (fix_of_zero_clause ∷ fix_of_positive_clause ∷ less_than_zero_clause ∷ nothing_less_than_zero_clause ∷ []) less_with_fix_log less_with_fix_clause refl (fix_of_zero, (fix_of_positive, (less_than_zero, (nothing_less_than_zero, tt)))) refl

pub less_with_fix_at : (h : History) (x y : Term) → IsTerm (symbols_of h) x → IsTerm (symbols_of h) y → Derivable h (clause ((call2 "EQUAL" (call2 "LESSP" x (call1 "FIX" y)) (call2 "LESSP" x y)) ∷ []))
less_with_fix_at h x y ox oy =
    by_law h [] (call2 "EQUAL" (call2 "LESSP" (variable "X") (call1 "FIX" (variable "Y"))) (call2 "LESSP" (variable "X") (variable "Y"))) ((codes "X", x) ∷ (codes "Y", y) ∷ []) (grown less_with_fix_clause less_with_fix h) tt ((equal_symbol h, ((lessp_symbol h, ox), (fix_symbol h, oy))), ((lessp_symbol h, ox), oy))

-- (EQUAL (SUB1 (ADD1 X)) (FIX X))
abbrev sub1_of_any_add1_log : List LogLine
sub1_of_any_add1_log =
    Ruled (AxiomRow (codes "FIX") 1 0)
    ∷ Ruled (AxiomRow (codes "IF") 1 0)
    ∷ Ruled (Reflexive (call0 "ZERO"))
    ∷ Ruled (Instance 2 ((codes "X", (call1 "NUMBERP" (variable "X"))) ∷ (codes "Y", (variable "X")) ∷ (codes "Z", (call0 "ZERO")) ∷ []))
    ∷ Ruled (Reflexive (variable "X"))
    ∷ Ruled (Instance 4 ((codes "X", (call1 "NUMBERP" (variable "X"))) ∷ (codes "Y", (variable "X")) ∷ (codes "Z", (call0 "ZERO")) ∷ []))
    ∷ Ruled (AxiomRow (codes "ADD1") 7 1)
    ∷ Ruled (Instance 1 ((codes "X1", (variable "X")) ∷ []))
    ∷ Ruled (Replace 7 1 (2 ∷ []) (call3 "IF" (call1 "NUMBERP" (variable "X")) (variable "X") (call0 "ZERO")) Backwards)
    ∷ Ruled (Cut 6 11 (call2 "EQUAL" (call3 "IF" (call1 "NUMBERP" (variable "X")) (variable "X") (call0 "ZERO")) (variable "X")))
    ∷ Ruled (Replace 12 2 (1 ∷ []) (call1 "SUB1" (call1 "ADD1" (variable "X"))) Backwards)
    ∷ Ruled (Cut 10 13 (call2 "EQUAL" (call1 "SUB1" (call1 "ADD1" (variable "X"))) (variable "X")))
    ∷ Ruled (Instance 9 ((codes "X1", (variable "X")) ∷ []))
    ∷ Ruled (Replace 5 1 (2 ∷ []) (call3 "IF" (call1 "NUMBERP" (variable "X")) (variable "X") (call0 "ZERO")) Backwards)
    ∷ Ruled (Cut 8 16 (call2 "EQUAL" (call3 "IF" (call1 "NUMBERP" (variable "X")) (variable "X") (call0 "ZERO")) (call0 "ZERO")))
    ∷ Ruled (Replace 17 2 (1 ∷ []) (call1 "SUB1" (call1 "ADD1" (variable "X"))) Backwards)
    ∷ Ruled (Cut 15 18 (call2 "EQUAL" (call1 "SUB1" (call1 "ADD1" (variable "X"))) (call0 "ZERO")))
    ∷ Ruled (Cut 19 14 (call1 "NUMBERP" (variable "X")))
    ∷ Ruled (Replace 20 1 (2 ∷ []) (call1 "FIX" (variable "X")) Backwards)
    ∷ Ruled (Cut 3 21 (call2 "EQUAL" (call1 "FIX" (variable "X")) (call3 "IF" (call1 "NUMBERP" (variable "X")) (variable "X") (call0 "ZERO")))) ∷ []

pub sub1_of_any_add1 : Derivable [] (clause sub1_of_any_add1_clause)
unfolding symbols_of number_of
sub1_of_any_add1 = everywhere (sub1_of_add1_clause ∷ if_of_truth_clause ∷ []) sub1_of_any_add1_log sub1_of_any_add1_clause refl (sub1_of_add1, (if_of_truth, tt)) refl

pub sub1_of_any_add1_at : (h : History) (x : Term) → IsTerm (symbols_of h) x → Derivable h (clause ((call2 "EQUAL" (call1 "SUB1" (call1 "ADD1" x)) (call1 "FIX" x)) ∷ []))
sub1_of_any_add1_at h x ox =
    by_law h [] (call2 "EQUAL" (call1 "SUB1" (call1 "ADD1" (variable "X"))) (call1 "FIX" (variable "X"))) ((codes "X", x) ∷ []) (grown sub1_of_any_add1_clause sub1_of_any_add1 h) tt ((equal_symbol h, (sub1_symbol h, (add1_symbol h, ox))), (fix_symbol h, ox))

-- (ZEROP B), (EQUAL (LESSP B (ADD1 A)) (LESSP (SUB1 B) A))
abbrev less_than_add1_log : List LogLine
less_than_add1_log =
    Ruled (AxiomRow (codes "FALSE") 1 0)
    ∷ Ruled (Instance 1 ((codes "X", (variable "A")) ∷ []))
    ∷ Ruled (Instance 2 ((codes "X", (variable "B")) ∷ (codes "Y", (call1 "ADD1" (variable "A"))) ∷ []))
    ∷ Ruled (Taut ((call1 "ZEROP" (call1 "ADD1" (variable "A"))) ∷ (call1 "NOT" (call1 "ZEROP" (call1 "ADD1" (variable "A")))) ∷ []))
    ∷ Ruled (Replace 8 1 [] (call0 "FALSE") Forwards)
    ∷ Ruled (Cut 9 5 (call0 "FALSE"))
    ∷ Ruled (Cut 6 10 (call2 "EQUAL" (call1 "ZEROP" (call1 "ADD1" (variable "A"))) (call0 "FALSE")))
    ∷ Ruled (Cut 7 11 (call1 "ZEROP" (call1 "ADD1" (variable "A"))))
    ∷ Ruled (Instance 4 ((codes "X", (variable "A")) ∷ []))
    ∷ Ruled (Replace 12 2 (2 ∷ 2 ∷ []) (call1 "FIX" (variable "A")) Forwards)
    ∷ Ruled (Cut 13 14 (call2 "EQUAL" (call1 "SUB1" (call1 "ADD1" (variable "A"))) (call1 "FIX" (variable "A"))))
    ∷ Ruled (Instance 3 ((codes "X", (call1 "SUB1" (variable "B"))) ∷ (codes "Y", (variable "A")) ∷ []))
    ∷ Ruled (Replace 15 2 (2 ∷ []) (call2 "LESSP" (call1 "SUB1" (variable "B")) (variable "A")) Forwards)
    ∷ Ruled (Cut 16 17 (call2 "EQUAL" (call2 "LESSP" (call1 "SUB1" (variable "B")) (call1 "FIX" (variable "A"))) (call2 "LESSP" (call1 "SUB1" (variable "B")) (variable "A")))) ∷ []

pub less_than_add1 : Derivable [] (clause less_than_add1_clause)
unfolding symbols_of number_of
less_than_add1 = everywhere (add1_is_not_zero_clause ∷ less_of_positives_clause ∷ less_with_fix_clause ∷ sub1_of_any_add1_clause ∷ []) less_than_add1_log less_than_add1_clause refl (add1_is_not_zero, (less_of_positives, (less_with_fix, (sub1_of_any_add1, tt)))) refl

-- (IMPLIES (LESSP A B) (NOT (LESSP B (ADD1 A))))
abbrev less_turns_as_term_log : List LogLine
less_turns_as_term_log =
    Ruled (AxiomRow (codes "IF") 1 0)
    ∷ Ruled (AxiomRow (codes "FALSE") 1 0)
    ∷ Ruled (AxiomRow (codes "LESSP") 1 0)
    ∷ Ruled (Instance 8 ((codes "X", (call0 "FALSE")) ∷ (codes "Y", (call0 "FALSE")) ∷ (codes "Z", (call0 "TRUE")) ∷ []))
    ∷ Ruled (Cut 11 9 (call0 "FALSE"))
    ∷ Ruled (AxiomRow (codes "IMPLIES") 1 0)
    ∷ Ruled (Instance 1 ((codes "X", (call0 "TRUE")) ∷ (codes "Y", (call0 "TRUE")) ∷ (codes "Z", (call0 "FALSE")) ∷ []))
    ∷ Ruled (Cut 2 14 (call0 "TRUE"))
    ∷ Ruled (Taut ((call0 "TRUE") ∷ (call1 "NOT" (call0 "TRUE")) ∷ []))
    ∷ Ruled (AxiomRow (codes "NOT") 1 0)
    ∷ Ruled (Instance 17 ((codes "P", (call0 "FALSE")) ∷ []))
    ∷ Ruled (Instance 3 ((codes "X", (variable "A")) ∷ []))
    ∷ Ruled (Instance 10 ((codes "X", (variable "A")) ∷ (codes "Y", (variable "B")) ∷ []))
    ∷ Ruled (Instance 1 ((codes "X", (call1 "ZEROP" (variable "A"))) ∷ (codes "Y", (call0 "TRUE")) ∷ (codes "Z", (call2 "LESSP" (call1 "SUB1" (variable "A")) (call1 "SUB1" (variable "B")))) ∷ []))
    ∷ Ruled (Instance 13 ((codes "P", (call3 "IF" (call1 "ZEROP" (variable "B")) (call0 "FALSE") (call0 "TRUE"))) ∷ (codes "Q", (call1 "NOT" (call2 "LESSP" (variable "B") (call1 "ADD1" (variable "A"))))) ∷ []))
    ∷ Ruled (Instance 1 ((codes "X", (call1 "ZEROP" (variable "B"))) ∷ (codes "Y", (call0 "FALSE")) ∷ (codes "Z", (call0 "TRUE")) ∷ []))
    ∷ Ruled (Instance 8 ((codes "X", (call0 "FALSE")) ∷ (codes "Y", (call3 "IF" (call1 "NOT" (call2 "LESSP" (variable "B") (call1 "ADD1" (variable "A")))) (call0 "TRUE") (call0 "FALSE"))) ∷ (codes "Z", (call0 "TRUE")) ∷ []))
    ∷ Ruled (Cut 24 9 (call0 "FALSE"))
    ∷ Ruled (Replace 2 1 [] (call3 "IF" (call0 "FALSE") (call3 "IF" (call1 "NOT" (call2 "LESSP" (variable "B") (call1 "ADD1" (variable "A")))) (call0 "TRUE") (call0 "FALSE")) (call0 "TRUE")) Backwards)
    ∷ Ruled (Cut 25 26 (call2 "EQUAL" (call3 "IF" (call0 "FALSE") (call3 "IF" (call1 "NOT" (call2 "LESSP" (variable "B") (call1 "ADD1" (variable "A")))) (call0 "TRUE") (call0 "FALSE")) (call0 "TRUE")) (call0 "TRUE")))
    ∷ Ruled (Replace 27 1 (1 ∷ []) (call3 "IF" (call1 "ZEROP" (variable "B")) (call0 "FALSE") (call0 "TRUE")) Backwards)
    ∷ Ruled (Cut 23 28 (call2 "EQUAL" (call3 "IF" (call1 "ZEROP" (variable "B")) (call0 "FALSE") (call0 "TRUE")) (call0 "FALSE")))
    ∷ Ruled (Instance 8 ((codes "X", (call1 "ZEROP" (variable "B"))) ∷ (codes "Y", (call0 "FALSE")) ∷ (codes "Z", (call0 "TRUE")) ∷ []))
    ∷ Ruled (Instance 6 ((codes "X", (call1 "SUB1" (variable "B"))) ∷ (codes "Y", (variable "A")) ∷ []))
    ∷ Ruled (Instance 1 ((codes "X", (call0 "TRUE")) ∷ (codes "Y", (call0 "TRUE")) ∷ (codes "Z", (call0 "TRUE")) ∷ []))
    ∷ Ruled (Cut 2 32 (call0 "TRUE"))
    ∷ Ruled (Replace 2 1 [] (call3 "IF" (call0 "TRUE") (call0 "TRUE") (call0 "TRUE")) Backwards)
    ∷ Ruled (Cut 33 34 (call2 "EQUAL" (call3 "IF" (call0 "TRUE") (call0 "TRUE") (call0 "TRUE")) (call0 "TRUE")))
    ∷ Ruled (Replace 35 1 (2 ∷ []) (call3 "IF" (call0 "TRUE") (call0 "TRUE") (call0 "FALSE")) Backwards)
    ∷ Ruled (Cut 15 36 (call2 "EQUAL" (call3 "IF" (call0 "TRUE") (call0 "TRUE") (call0 "FALSE")) (call0 "TRUE")))
    ∷ Ruled (Replace 37 1 (2 ∷ 1 ∷ []) (call3 "IF" (call0 "FALSE") (call0 "FALSE") (call0 "TRUE")) Backwards)
    ∷ Ruled (Cut 12 38 (call2 "EQUAL" (call3 "IF" (call0 "FALSE") (call0 "FALSE") (call0 "TRUE")) (call0 "TRUE")))
    ∷ Ruled (Replace 39 1 (2 ∷ 1 ∷ []) (call1 "NOT" (call0 "FALSE")) Backwards)
    ∷ Ruled (Cut 18 40 (call2 "EQUAL" (call1 "NOT" (call0 "FALSE")) (call3 "IF" (call0 "FALSE") (call0 "FALSE") (call0 "TRUE"))))
    ∷ Ruled (Replace 41 1 (2 ∷ 1 ∷ 1 ∷ []) (call2 "LESSP" (call1 "SUB1" (variable "B")) (variable "A")) Backwards)
    ∷ Ruled (Cut 31 42 (call2 "EQUAL" (call2 "LESSP" (call1 "SUB1" (variable "B")) (variable "A")) (call0 "FALSE")))
    ∷ Ruled (Replace 43 2 (2 ∷ 1 ∷ 1 ∷ []) (call2 "LESSP" (variable "B") (call1 "ADD1" (variable "A"))) Backwards)
    ∷ Ruled (Cut 7 44 (call2 "EQUAL" (call2 "LESSP" (variable "B") (call1 "ADD1" (variable "A"))) (call2 "LESSP" (call1 "SUB1" (variable "B")) (variable "A"))))
    ∷ Ruled (Replace 45 3 (1 ∷ []) (call3 "IF" (call1 "ZEROP" (variable "B")) (call0 "FALSE") (call0 "TRUE")) Backwards)
    ∷ Ruled (Cut 30 46 (call2 "EQUAL" (call3 "IF" (call1 "ZEROP" (variable "B")) (call0 "FALSE") (call0 "TRUE")) (call0 "TRUE")))
    ∷ Ruled (Cut 47 29 (call1 "ZEROP" (variable "B")))
    ∷ Ruled (Replace 48 2 [] (call2 "IMPLIES" (call3 "IF" (call1 "ZEROP" (variable "B")) (call0 "FALSE") (call0 "TRUE")) (call1 "NOT" (call2 "LESSP" (variable "B") (call1 "ADD1" (variable "A"))))) Backwards)
    ∷ Ruled (Cut 22 49 (call2 "EQUAL" (call2 "IMPLIES" (call3 "IF" (call1 "ZEROP" (variable "B")) (call0 "FALSE") (call0 "TRUE")) (call1 "NOT" (call2 "LESSP" (variable "B") (call1 "ADD1" (variable "A"))))) (call3 "IF" (call3 "IF" (call1 "ZEROP" (variable "B")) (call0 "FALSE") (call0 "TRUE")) (call3 "IF" (call1 "NOT" (call2 "LESSP" (variable "B") (call1 "ADD1" (variable "A")))) (call0 "TRUE") (call0 "FALSE")) (call0 "TRUE"))))
    ∷ Ruled (Replace 50 2 (1 ∷ 3 ∷ []) (call3 "IF" (call1 "ZEROP" (variable "A")) (call0 "TRUE") (call2 "LESSP" (call1 "SUB1" (variable "A")) (call1 "SUB1" (variable "B")))) Backwards)
    ∷ Ruled (Cut 21 51 (call2 "EQUAL" (call3 "IF" (call1 "ZEROP" (variable "A")) (call0 "TRUE") (call2 "LESSP" (call1 "SUB1" (variable "A")) (call1 "SUB1" (variable "B")))) (call0 "TRUE")))
    ∷ Ruled (Replace 52 2 (1 ∷ []) (call2 "LESSP" (variable "A") (variable "B")) Backwards)
    ∷ Ruled (Cut 20 53 (call2 "EQUAL" (call2 "LESSP" (variable "A") (variable "B")) (call3 "IF" (call1 "ZEROP" (variable "B")) (call0 "FALSE") (call3 "IF" (call1 "ZEROP" (variable "A")) (call0 "TRUE") (call2 "LESSP" (call1 "SUB1" (variable "A")) (call1 "SUB1" (variable "B")))))))
    ∷ Ruled (Instance 13 ((codes "P", (call2 "LESSP" (call1 "SUB1" (variable "A")) (call1 "SUB1" (variable "B")))) ∷ (codes "Q", (call1 "NOT" (call2 "LESSP" (call1 "SUB1" (variable "B")) (variable "A")))) ∷ []))
    ∷ Ruled (Instance 8 ((codes "X", (call1 "ZEROP" (variable "A"))) ∷ (codes "Y", (call0 "TRUE")) ∷ (codes "Z", (call2 "LESSP" (call1 "SUB1" (variable "A")) (call1 "SUB1" (variable "B")))) ∷ []))
    ∷ Ruled (Instance 13 ((codes "P", (call3 "IF" (call1 "ZEROP" (variable "B")) (call0 "FALSE") (call2 "LESSP" (call1 "SUB1" (variable "A")) (call1 "SUB1" (variable "B"))))) ∷ (codes "Q", (call1 "NOT" (call2 "LESSP" (variable "B") (call1 "ADD1" (variable "A"))))) ∷ []))
    ∷ Ruled (Instance 1 ((codes "X", (call1 "NOT" (call2 "LESSP" (call1 "SUB1" (variable "B")) (variable "A")))) ∷ (codes "Y", (call0 "TRUE")) ∷ (codes "Z", (call0 "FALSE")) ∷ []))
    ∷ Ruled (Instance 1 ((codes "X", (call2 "LESSP" (call1 "SUB1" (variable "A")) (call1 "SUB1" (variable "B")))) ∷ (codes "Y", (call0 "TRUE")) ∷ (codes "Z", (call0 "TRUE")) ∷ []))
    ∷ Ruled (Instance 1 ((codes "X", (call1 "ZEROP" (variable "B"))) ∷ (codes "Y", (call0 "FALSE")) ∷ (codes "Z", (call2 "LESSP" (call1 "SUB1" (variable "A")) (call1 "SUB1" (variable "B")))) ∷ []))
    ∷ Ruled (Replace 16 1 [] (call3 "IF" (call0 "FALSE") (call3 "IF" (call1 "NOT" (call2 "LESSP" (variable "B") (call1 "ADD1" (variable "A")))) (call0 "TRUE") (call0 "FALSE")) (call0 "TRUE")) Backwards)
    ∷ Ruled (Cut 25 61 (call2 "EQUAL" (call3 "IF" (call0 "FALSE") (call3 "IF" (call1 "NOT" (call2 "LESSP" (variable "B") (call1 "ADD1" (variable "A")))) (call0 "TRUE") (call0 "FALSE")) (call0 "TRUE")) (call0 "TRUE")))
    ∷ Ruled (Replace 62 1 (1 ∷ []) (call3 "IF" (call1 "ZEROP" (variable "B")) (call0 "FALSE") (call2 "LESSP" (call1 "SUB1" (variable "A")) (call1 "SUB1" (variable "B")))) Backwards)
    ∷ Ruled (Cut 60 63 (call2 "EQUAL" (call3 "IF" (call1 "ZEROP" (variable "B")) (call0 "FALSE") (call2 "LESSP" (call1 "SUB1" (variable "A")) (call1 "SUB1" (variable "B")))) (call0 "FALSE")))
    ∷ Ruled (Instance 8 ((codes "X", (call1 "ZEROP" (variable "B"))) ∷ (codes "Y", (call0 "FALSE")) ∷ (codes "Z", (call2 "LESSP" (call1 "SUB1" (variable "A")) (call1 "SUB1" (variable "B")))) ∷ []))
    ∷ Ruled (Replace 16 1 [] (call3 "IF" (call2 "LESSP" (call1 "SUB1" (variable "A")) (call1 "SUB1" (variable "B"))) (call0 "TRUE") (call0 "TRUE")) Backwards)
    ∷ Ruled (Cut 59 66 (call2 "EQUAL" (call3 "IF" (call2 "LESSP" (call1 "SUB1" (variable "A")) (call1 "SUB1" (variable "B"))) (call0 "TRUE") (call0 "TRUE")) (call0 "TRUE")))
    ∷ Ruled (Replace 67 2 (2 ∷ []) (call3 "IF" (call1 "NOT" (call2 "LESSP" (call1 "SUB1" (variable "B")) (variable "A"))) (call0 "TRUE") (call0 "FALSE")) Backwards)
    ∷ Ruled (Cut 58 68 (call2 "EQUAL" (call3 "IF" (call1 "NOT" (call2 "LESSP" (call1 "SUB1" (variable "B")) (variable "A"))) (call0 "TRUE") (call0 "FALSE")) (call0 "TRUE")))
    ∷ Ruled (Replace 69 3 (2 ∷ 1 ∷ 1 ∷ []) (call2 "LESSP" (variable "B") (call1 "ADD1" (variable "A"))) Backwards)
    ∷ Ruled (Cut 7 70 (call2 "EQUAL" (call2 "LESSP" (variable "B") (call1 "ADD1" (variable "A"))) (call2 "LESSP" (call1 "SUB1" (variable "B")) (variable "A"))))
    ∷ Ruled (Replace 71 4 (1 ∷ []) (call3 "IF" (call1 "ZEROP" (variable "B")) (call0 "FALSE") (call2 "LESSP" (call1 "SUB1" (variable "A")) (call1 "SUB1" (variable "B")))) Backwards)
    ∷ Ruled (Cut 65 72 (call2 "EQUAL" (call3 "IF" (call1 "ZEROP" (variable "B")) (call0 "FALSE") (call2 "LESSP" (call1 "SUB1" (variable "A")) (call1 "SUB1" (variable "B")))) (call2 "LESSP" (call1 "SUB1" (variable "A")) (call1 "SUB1" (variable "B")))))
    ∷ Ruled (Cut 73 64 (call1 "ZEROP" (variable "B")))
    ∷ Ruled (Replace 74 4 (1 ∷ []) (call3 "IF" (call2 "LESSP" (call1 "SUB1" (variable "A")) (call1 "SUB1" (variable "B"))) (call0 "TRUE") (call0 "TRUE")) Backwards)
    ∷ Ruled (Cut 59 75 (call2 "EQUAL" (call3 "IF" (call2 "LESSP" (call1 "SUB1" (variable "A")) (call1 "SUB1" (variable "B"))) (call0 "TRUE") (call0 "TRUE")) (call0 "TRUE")))
    ∷ Ruled (Instance 8 ((codes "X", (call2 "LESSP" (call1 "SUB1" (variable "A")) (call1 "SUB1" (variable "B")))) ∷ (codes "Y", (call0 "TRUE")) ∷ (codes "Z", (call0 "TRUE")) ∷ []))
    ∷ Ruled (Cut 77 66 (call2 "EQUAL" (call3 "IF" (call2 "LESSP" (call1 "SUB1" (variable "A")) (call1 "SUB1" (variable "B"))) (call0 "TRUE") (call0 "TRUE")) (call0 "TRUE")))
    ∷ Ruled (Replace 78 2 (2 ∷ []) (call3 "IF" (call1 "NOT" (call2 "LESSP" (call1 "SUB1" (variable "B")) (variable "A"))) (call0 "TRUE") (call0 "FALSE")) Backwards)
    ∷ Ruled (Cut 58 79 (call2 "EQUAL" (call3 "IF" (call1 "NOT" (call2 "LESSP" (call1 "SUB1" (variable "B")) (variable "A"))) (call0 "TRUE") (call0 "FALSE")) (call0 "TRUE")))
    ∷ Ruled (Replace 80 3 (2 ∷ 1 ∷ 1 ∷ []) (call2 "LESSP" (variable "B") (call1 "ADD1" (variable "A"))) Backwards)
    ∷ Ruled (Cut 7 81 (call2 "EQUAL" (call2 "LESSP" (variable "B") (call1 "ADD1" (variable "A"))) (call2 "LESSP" (call1 "SUB1" (variable "B")) (variable "A"))))
    ∷ Ruled (Replace 82 4 (1 ∷ []) (call3 "IF" (call1 "ZEROP" (variable "B")) (call0 "FALSE") (call2 "LESSP" (call1 "SUB1" (variable "A")) (call1 "SUB1" (variable "B")))) Backwards)
    ∷ Ruled (Cut 65 83 (call2 "EQUAL" (call3 "IF" (call1 "ZEROP" (variable "B")) (call0 "FALSE") (call2 "LESSP" (call1 "SUB1" (variable "A")) (call1 "SUB1" (variable "B")))) (call2 "LESSP" (call1 "SUB1" (variable "A")) (call1 "SUB1" (variable "B")))))
    ∷ Ruled (Cut 84 64 (call1 "ZEROP" (variable "B")))
    ∷ Ruled (Replace 85 4 (1 ∷ []) (call3 "IF" (call2 "LESSP" (call1 "SUB1" (variable "A")) (call1 "SUB1" (variable "B"))) (call0 "TRUE") (call0 "TRUE")) Backwards)
    ∷ Ruled (Cut 77 86 (call2 "EQUAL" (call3 "IF" (call2 "LESSP" (call1 "SUB1" (variable "A")) (call1 "SUB1" (variable "B"))) (call0 "TRUE") (call0 "TRUE")) (call0 "TRUE")))
    ∷ Ruled (Cut 87 76 (call2 "LESSP" (call1 "SUB1" (variable "A")) (call1 "SUB1" (variable "B"))))
    ∷ Ruled (Replace 88 3 (1 ∷ 2 ∷ []) (call3 "IF" (call1 "NOT" (call2 "LESSP" (call1 "SUB1" (variable "B")) (variable "A"))) (call0 "TRUE") (call0 "FALSE")) Backwards)
    ∷ Ruled (Cut 58 89 (call2 "EQUAL" (call3 "IF" (call1 "NOT" (call2 "LESSP" (call1 "SUB1" (variable "B")) (variable "A"))) (call0 "TRUE") (call0 "FALSE")) (call0 "TRUE")))
    ∷ Ruled (Instance 8 ((codes "X", (call1 "NOT" (call2 "LESSP" (call1 "SUB1" (variable "B")) (variable "A")))) ∷ (codes "Y", (call0 "TRUE")) ∷ (codes "Z", (call0 "FALSE")) ∷ []))
    ∷ Ruled (Instance 1 ((codes "X", (call2 "LESSP" (call1 "SUB1" (variable "A")) (call1 "SUB1" (variable "B")))) ∷ (codes "Y", (call0 "FALSE")) ∷ (codes "Z", (call0 "TRUE")) ∷ []))
    ∷ Ruled (Replace 9 1 (1 ∷ []) (call3 "IF" (call2 "LESSP" (call1 "SUB1" (variable "A")) (call1 "SUB1" (variable "B"))) (call0 "FALSE") (call0 "TRUE")) Backwards)
    ∷ Ruled (Cut 92 93 (call2 "EQUAL" (call3 "IF" (call2 "LESSP" (call1 "SUB1" (variable "A")) (call1 "SUB1" (variable "B"))) (call0 "FALSE") (call0 "TRUE")) (call0 "FALSE")))
    ∷ Ruled (Instance 8 ((codes "X", (call2 "LESSP" (call1 "SUB1" (variable "A")) (call1 "SUB1" (variable "B")))) ∷ (codes "Y", (call0 "FALSE")) ∷ (codes "Z", (call0 "TRUE")) ∷ []))
    ∷ Ruled (Replace 16 1 [] (call3 "IF" (call2 "LESSP" (call1 "SUB1" (variable "A")) (call1 "SUB1" (variable "B"))) (call0 "FALSE") (call0 "TRUE")) Backwards)
    ∷ Ruled (Cut 95 96 (call2 "EQUAL" (call3 "IF" (call2 "LESSP" (call1 "SUB1" (variable "A")) (call1 "SUB1" (variable "B"))) (call0 "FALSE") (call0 "TRUE")) (call0 "TRUE")))
    ∷ Ruled (Replace 97 2 (2 ∷ []) (call3 "IF" (call1 "NOT" (call2 "LESSP" (call1 "SUB1" (variable "B")) (variable "A"))) (call0 "TRUE") (call0 "FALSE")) Backwards)
    ∷ Ruled (Cut 91 98 (call2 "EQUAL" (call3 "IF" (call1 "NOT" (call2 "LESSP" (call1 "SUB1" (variable "B")) (variable "A"))) (call0 "TRUE") (call0 "FALSE")) (call0 "FALSE")))
    ∷ Ruled (Replace 99 3 (2 ∷ 1 ∷ 1 ∷ []) (call2 "LESSP" (variable "B") (call1 "ADD1" (variable "A"))) Backwards)
    ∷ Ruled (Cut 7 100 (call2 "EQUAL" (call2 "LESSP" (variable "B") (call1 "ADD1" (variable "A"))) (call2 "LESSP" (call1 "SUB1" (variable "B")) (variable "A"))))
    ∷ Ruled (Replace 101 4 (1 ∷ []) (call3 "IF" (call1 "ZEROP" (variable "B")) (call0 "FALSE") (call2 "LESSP" (call1 "SUB1" (variable "A")) (call1 "SUB1" (variable "B")))) Backwards)
    ∷ Ruled (Cut 65 102 (call2 "EQUAL" (call3 "IF" (call1 "ZEROP" (variable "B")) (call0 "FALSE") (call2 "LESSP" (call1 "SUB1" (variable "A")) (call1 "SUB1" (variable "B")))) (call2 "LESSP" (call1 "SUB1" (variable "A")) (call1 "SUB1" (variable "B")))))
    ∷ Ruled (Cut 103 64 (call1 "ZEROP" (variable "B")))
    ∷ Ruled (Replace 104 4 (1 ∷ []) (call3 "IF" (call2 "LESSP" (call1 "SUB1" (variable "A")) (call1 "SUB1" (variable "B"))) (call0 "FALSE") (call0 "TRUE")) Backwards)
    ∷ Ruled (Cut 95 105 (call2 "EQUAL" (call3 "IF" (call2 "LESSP" (call1 "SUB1" (variable "A")) (call1 "SUB1" (variable "B"))) (call0 "FALSE") (call0 "TRUE")) (call0 "TRUE")))
    ∷ Ruled (Cut 106 94 (call2 "LESSP" (call1 "SUB1" (variable "A")) (call1 "SUB1" (variable "B"))))
    ∷ Ruled (Replace 107 3 (1 ∷ 2 ∷ []) (call3 "IF" (call1 "NOT" (call2 "LESSP" (call1 "SUB1" (variable "B")) (variable "A"))) (call0 "TRUE") (call0 "FALSE")) Backwards)
    ∷ Ruled (Cut 91 108 (call2 "EQUAL" (call3 "IF" (call1 "NOT" (call2 "LESSP" (call1 "SUB1" (variable "B")) (variable "A"))) (call0 "TRUE") (call0 "FALSE")) (call0 "FALSE")))
    ∷ Ruled (Cut 109 90 (call1 "NOT" (call2 "LESSP" (call1 "SUB1" (variable "B")) (variable "A"))))
    ∷ Ruled (Replace 110 1 [] (call2 "IMPLIES" (call3 "IF" (call1 "ZEROP" (variable "B")) (call0 "FALSE") (call2 "LESSP" (call1 "SUB1" (variable "A")) (call1 "SUB1" (variable "B")))) (call1 "NOT" (call2 "LESSP" (variable "B") (call1 "ADD1" (variable "A"))))) Backwards)
    ∷ Ruled (Cut 57 111 (call2 "EQUAL" (call2 "IMPLIES" (call3 "IF" (call1 "ZEROP" (variable "B")) (call0 "FALSE") (call2 "LESSP" (call1 "SUB1" (variable "A")) (call1 "SUB1" (variable "B")))) (call1 "NOT" (call2 "LESSP" (variable "B") (call1 "ADD1" (variable "A"))))) (call3 "IF" (call3 "IF" (call1 "ZEROP" (variable "B")) (call0 "FALSE") (call2 "LESSP" (call1 "SUB1" (variable "A")) (call1 "SUB1" (variable "B")))) (call3 "IF" (call1 "NOT" (call2 "LESSP" (variable "B") (call1 "ADD1" (variable "A")))) (call0 "TRUE") (call0 "FALSE")) (call0 "TRUE"))))
    ∷ Ruled (Replace 112 1 (1 ∷ 3 ∷ []) (call3 "IF" (call1 "ZEROP" (variable "A")) (call0 "TRUE") (call2 "LESSP" (call1 "SUB1" (variable "A")) (call1 "SUB1" (variable "B")))) Backwards)
    ∷ Ruled (Cut 56 113 (call2 "EQUAL" (call3 "IF" (call1 "ZEROP" (variable "A")) (call0 "TRUE") (call2 "LESSP" (call1 "SUB1" (variable "A")) (call1 "SUB1" (variable "B")))) (call2 "LESSP" (call1 "SUB1" (variable "A")) (call1 "SUB1" (variable "B")))))
    ∷ Ruled (Replace 114 2 (1 ∷ []) (call2 "LESSP" (variable "A") (variable "B")) Backwards)
    ∷ Ruled (Cut 20 115 (call2 "EQUAL" (call2 "LESSP" (variable "A") (variable "B")) (call3 "IF" (call1 "ZEROP" (variable "B")) (call0 "FALSE") (call3 "IF" (call1 "ZEROP" (variable "A")) (call0 "TRUE") (call2 "LESSP" (call1 "SUB1" (variable "A")) (call1 "SUB1" (variable "B")))))))
    ∷ Ruled (Replace 116 3 (1 ∷ []) (call2 "IMPLIES" (call2 "LESSP" (call1 "SUB1" (variable "A")) (call1 "SUB1" (variable "B"))) (call1 "NOT" (call2 "LESSP" (call1 "SUB1" (variable "B")) (variable "A")))) Backwards)
    ∷ Ruled (Cut 55 117 (call2 "EQUAL" (call2 "IMPLIES" (call2 "LESSP" (call1 "SUB1" (variable "A")) (call1 "SUB1" (variable "B"))) (call1 "NOT" (call2 "LESSP" (call1 "SUB1" (variable "B")) (variable "A")))) (call3 "IF" (call2 "LESSP" (call1 "SUB1" (variable "A")) (call1 "SUB1" (variable "B"))) (call3 "IF" (call1 "NOT" (call2 "LESSP" (call1 "SUB1" (variable "B")) (variable "A"))) (call0 "TRUE") (call0 "FALSE")) (call0 "TRUE"))))
    ∷ Ruled (Replace 118 3 (1 ∷ 2 ∷ 1 ∷ 2 ∷ []) (call1 "ADD1" (call1 "SUB1" (variable "A"))) Backwards)
    ∷ Ruled (Cut 19 119 (call2 "EQUAL" (call1 "ADD1" (call1 "SUB1" (variable "A"))) (variable "A")))
    ∷ Ruled (Taut ((call1 "NOT" (call1 "ZEROP" (variable "A"))) ∷ (call1 "NOT" (call1 "NOT" (call1 "ZEROP" (variable "A")))) ∷ []))
    ∷ Ruled (Cut 120 121 (call1 "ZEROP" (variable "A")))
    ∷ Ruled (Instance 4 ((codes "X", (variable "A")) ∷ []))
    ∷ Ruled (Instance 5 ((codes "X", (variable "A")) ∷ []))
    ∷ Ruled (Induct (call2 "IMPLIES" (call2 "LESSP" (variable "A") (variable "B")) (call1 "NOT" (call2 "LESSP" (variable "B") (call1 "ADD1" (variable "A"))))) (call1 "COUNT" (variable "A")) 123 54 (record { test = (call1 "NOT" (call1 "ZEROP" (variable "A"))); step = 122; hypotheses = (record { line = 124; pairs = ((codes "A", (call1 "SUB1" (variable "A"))) ∷ (codes "B", (call1 "SUB1" (variable "B"))) ∷ []) } ∷ []) } ∷ [])) ∷ []

pub less_turns_as_term : Derivable [] (clause less_turns_as_term_clause)
unfolding symbols_of number_of
less_turns_as_term = everywhere (if_of_truth_clause ∷ truth_is_true_clause ∷ add1_of_sub1_clause ∷ size_is_ordinal_clause ∷ size_falls_clause ∷ less_than_zero_clause ∷ less_than_add1_clause ∷ []) less_turns_as_term_log less_turns_as_term_clause refl (if_of_truth, (truth_is_true, (add1_of_sub1, (size_is_ordinal, (size_falls, (less_than_zero, (less_than_add1, tt))))))) refl

pub less_turns_as_term_at : (h : History) (a b : Term) → IsTerm (symbols_of h) a → IsTerm (symbols_of h) b → Derivable h (clause ((call2 "IMPLIES" (call2 "LESSP" a b) (call1 "NOT" (call2 "LESSP" b (call1 "ADD1" a)))) ∷ []))
less_turns_as_term_at h a b oa ob =
    by_law h [] (call2 "IMPLIES" (call2 "LESSP" (variable "A") (variable "B")) (call1 "NOT" (call2 "LESSP" (variable "B") (call1 "ADD1" (variable "A"))))) ((codes "A", a) ∷ (codes "B", b) ∷ []) (grown less_turns_as_term_clause less_turns_as_term h) tt ((implies_symbol h, ((lessp_symbol h, oa), ob)), (not_symbol h, ((lessp_symbol h, ob), (add1_symbol h, oa))))

-- (NOT (LESSP A B)), (NOT (LESSP B (ADD1 A)))
abbrev less_turns_log : List LogLine
less_turns_log =
    Ruled (AxiomRow (codes "IF") 1 0)
    ∷ Ruled (AxiomRow (codes "FALSE") 1 0)
    ∷ Ruled (AxiomRow (codes "IMPLIES") 1 0)
    ∷ Ruled (Instance 5 ((codes "P", (call2 "LESSP" (variable "A") (variable "B"))) ∷ (codes "Q", (call1 "NOT" (call2 "LESSP" (variable "B") (call1 "ADD1" (variable "A"))))) ∷ []))
    ∷ Ruled (Instance 3 ((codes "X", (call1 "NOT" (call2 "LESSP" (variable "B") (call1 "ADD1" (variable "A"))))) ∷ (codes "Y", (call0 "TRUE")) ∷ (codes "Z", (call0 "FALSE")) ∷ []))
    ∷ Ruled (Instance 1 ((codes "X", (call2 "LESSP" (variable "A") (variable "B"))) ∷ (codes "Y", (call0 "FALSE")) ∷ (codes "Z", (call0 "TRUE")) ∷ []))
    ∷ Ruled (Replace 4 1 (1 ∷ []) (call3 "IF" (call2 "LESSP" (variable "A") (variable "B")) (call0 "FALSE") (call0 "TRUE")) Backwards)
    ∷ Ruled (Cut 8 9 (call2 "EQUAL" (call3 "IF" (call2 "LESSP" (variable "A") (variable "B")) (call0 "FALSE") (call0 "TRUE")) (call0 "FALSE")))
    ∷ Ruled (Replace 10 2 (1 ∷ 2 ∷ []) (call3 "IF" (call1 "NOT" (call2 "LESSP" (variable "B") (call1 "ADD1" (variable "A")))) (call0 "TRUE") (call0 "FALSE")) Backwards)
    ∷ Ruled (Cut 7 11 (call2 "EQUAL" (call3 "IF" (call1 "NOT" (call2 "LESSP" (variable "B") (call1 "ADD1" (variable "A")))) (call0 "TRUE") (call0 "FALSE")) (call0 "FALSE")))
    ∷ Ruled (Replace 12 3 (1 ∷ []) (call2 "IMPLIES" (call2 "LESSP" (variable "A") (variable "B")) (call1 "NOT" (call2 "LESSP" (variable "B") (call1 "ADD1" (variable "A"))))) Backwards)
    ∷ Ruled (Cut 6 13 (call2 "EQUAL" (call2 "IMPLIES" (call2 "LESSP" (variable "A") (variable "B")) (call1 "NOT" (call2 "LESSP" (variable "B") (call1 "ADD1" (variable "A"))))) (call3 "IF" (call2 "LESSP" (variable "A") (variable "B")) (call3 "IF" (call1 "NOT" (call2 "LESSP" (variable "B") (call1 "ADD1" (variable "A")))) (call0 "TRUE") (call0 "FALSE")) (call0 "TRUE"))))
    ∷ Ruled (Cut 2 14 (call2 "IMPLIES" (call2 "LESSP" (variable "A") (variable "B")) (call1 "NOT" (call2 "LESSP" (variable "B") (call1 "ADD1" (variable "A"))))))
    ∷ Ruled (Taut ((call1 "NOT" (call1 "NOT" (call2 "LESSP" (variable "B") (call1 "ADD1" (variable "A"))))) ∷ (call1 "NOT" (call2 "LESSP" (variable "B") (call1 "ADD1" (variable "A")))) ∷ []))
    ∷ Ruled (Cut 15 16 (call1 "NOT" (call2 "LESSP" (variable "B") (call1 "ADD1" (variable "A"))))) ∷ []

pub less_turns : Derivable [] (clause less_turns_clause)
unfolding symbols_of number_of
less_turns = everywhere (if_of_truth_clause ∷ less_turns_as_term_clause ∷ []) less_turns_log less_turns_clause refl (if_of_truth, (less_turns_as_term, tt)) refl

pub less_turns_at : (h : History) (a b : Term) → IsTerm (symbols_of h) a → IsTerm (symbols_of h) b → Derivable h (clause ((call2 "LESSP" a b) ∷ [])) → Derivable h (clause ((call1 "NOT" (call2 "LESSP" b (call1 "ADD1" a))) ∷ []))
less_turns_at h a b oa ob d1 =
    by_law h ((call2 "LESSP" (variable "A") (variable "B")) ∷ []) (call1 "NOT" (call2 "LESSP" (variable "B") (call1 "ADD1" (variable "A")))) ((codes "A", a) ∷ (codes "B", b) ∷ []) (grown less_turns_clause less_turns h) (d1, tt) (not_symbol h, ((lessp_symbol h, ob), (add1_symbol h, oa)))

pub laws_of_less_turns_hold : AreDerivable laws_of_less_turns
laws_of_less_turns_hold h = (grown less_with_fix_clause less_with_fix h, (grown sub1_of_any_add1_clause sub1_of_any_add1 h, (grown less_than_add1_clause less_than_add1 h, (grown less_turns_as_term_clause less_turns_as_term h, (grown less_turns_clause less_turns h, tt)))))
