-- Laws of the sizes of parts in the ground history, each by a log over earlier ones, and at terms of any history.
use Rattle.std.proofs.Common.{List, [], ◌∷◌, refl}
use Rattle.std.specs.Prelude.{codes}
use Rattle.nq_logic.specs.Terms.{Term, IsTerm}
use Rattle.nq_logic.specs.Words.{variable, call0, call1, call2, call3}
use Rattle.nq_logic.specs.Histories.{History}
use Rattle.nq_logic.specs.Ground.{symbols_of}
use Rattle.nq_logic.specs.Numerals.{number_of}
use Rattle.nq_logic.specs.Formulas.{clause}
use Rattle.nq_logic.specs.Derivations.{Derivable}
use Rattle.nq_logic.proofs.Clauses.{instance_law}
use Rattle.nq_proof.specs.Rules.{Taut, AxiomRow, Cut, Instance, Replace, Forwards, Backwards}
use Rattle.nq_proof.specs.Logs.{LogLine, Ruled}
use Rattle.nq_proof.proofs.SoundLogs.{everywhere, grown}
use Rattle.nq_proof.proofs.ByLaw.{by_law}
use Rattle.nq_laws.specs.Laws.{AreDerivable}
use Rattle.nq_logic.proofs.Symbols.{add1_symbol, count_symbol, equal_symbol, fix_symbol, if_symbol, lessp_symbol, negative_guts_symbol, not_symbol, ord_lessp_symbol, ordinalp_symbol, plus_symbol, unpack_symbol, zero_symbol}
use Rattle.nq_laws.specs.Descents.{less_than_one_more_clause, less_than_longer_sum_clause, part_is_smaller_clause, one_less_is_smaller_clause, atom_part_is_smaller_clause, negative_part_is_smaller_clause, sizes_descend_clause, smaller_is_below_clause, fix_is_ordinal_clause, laws_of_descents}
use Rattle.nq_laws.specs.Zero.{add1_is_not_zero_clause, zero_is_number_clause}
use Rattle.nq_laws.proofs.Zero.{add1_is_not_zero, zero_is_number}
use Rattle.nq_laws.specs.Ordinals.{size_of_positive_clause, ordinal_less_is_less_clause}
use Rattle.nq_laws.proofs.Ordinals.{size_of_positive, ordinal_less_is_less}
use Rattle.nq_laws.specs.Plus.{sum_is_number_clause, fix_is_number_clause}
use Rattle.nq_laws.proofs.Plus.{sum_is_number, fix_is_number}
use Rattle.nq_laws.specs.PlusOrder.{sum_commutes_clause}
use Rattle.nq_laws.proofs.PlusOrder.{sum_commutes}
use Rattle.nq_laws.specs.Less.{zero_less_than_positive_clause}
use Rattle.nq_laws.proofs.Less.{zero_less_than_positive}
use Rattle.nq_laws.specs.LessChains.{less_is_transitive_clause}
use Rattle.nq_laws.proofs.LessChains.{less_is_transitive}
use Rattle.nq_laws.specs.Sizes.{less_than_sum_clause}
use Rattle.nq_laws.proofs.Sizes.{less_than_sum}
use Rattle.nq_laws.specs.Parts.{sub1_of_add1_clause}
use Rattle.nq_laws.proofs.Parts.{sub1_of_add1}
use Rattle.nq_laws.specs.Connectives.{truth_is_true_clause, if_of_truth_clause}
use Rattle.nq_laws.proofs.Connectives.{truth_is_true, if_of_truth}
use Rattle.nq_laws.specs.SplitLess.{less_is_split_clause}
use Rattle.nq_laws.proofs.SplitLess.{less_is_split}
use Rattle.nq_laws.specs.LessTurns.{less_than_add1_clause, less_turns_clause}
use Rattle.nq_laws.proofs.LessTurns.{less_than_add1, less_turns}

-- (LESSP X (ADD1 X))
abbrev less_than_one_more_log : List LogLine
less_than_one_more_log =
    Ruled (AxiomRow (codes "FALSE") 1 0)
    ∷ Ruled (AxiomRow (codes "LESSP") 2 0)
    ∷ Ruled (Instance 3 ((codes "Y", (call1 "ADD1" (variable "X"))) ∷ []))
    ∷ Ruled (Taut ((call1 "ZEROP" (call1 "ADD1" (variable "X"))) ∷ (call1 "NOT" (call1 "ZEROP" (call1 "ADD1" (variable "X")))) ∷ []))
    ∷ Ruled (Replace 8 1 [] (call0 "FALSE") Forwards)
    ∷ Ruled (Cut 9 5 (call0 "FALSE"))
    ∷ Ruled (Cut 2 10 (call2 "EQUAL" (call1 "ZEROP" (call1 "ADD1" (variable "X"))) (call0 "FALSE")))
    ∷ Ruled (Cut 7 11 (call1 "ZEROP" (call1 "ADD1" (variable "X"))))
    ∷ Ruled (Replace 1 1 [] (call2 "LESSP" (variable "X") (call1 "ADD1" (variable "X"))) Backwards)
    ∷ Ruled (Cut 12 13 (call2 "EQUAL" (call2 "LESSP" (variable "X") (call1 "ADD1" (variable "X"))) (call0 "TRUE")))
    ∷ Ruled (Instance 4 ((codes "A", (variable "X")) ∷ (codes "B", (variable "X")) ∷ []))
    ∷ Ruled (Replace 6 2 [] (call2 "LESSP" (variable "X") (call1 "ADD1" (variable "X"))) Backwards)
    ∷ Ruled (Cut 15 16 (call2 "EQUAL" (call2 "LESSP" (variable "X") (call1 "ADD1" (variable "X"))) (call2 "LESSP" (call1 "SUB1" (variable "X")) (variable "X"))))
    ∷ Ruled (Cut 17 14 (call1 "ZEROP" (variable "X"))) ∷ []

pub less_than_one_more : Derivable [] (clause less_than_one_more_clause)
unfolding symbols_of number_of
less_than_one_more = everywhere (truth_is_true_clause ∷ add1_is_not_zero_clause ∷ zero_less_than_positive_clause ∷ less_than_add1_clause ∷ []) less_than_one_more_log less_than_one_more_clause refl (truth_is_true, (add1_is_not_zero, (zero_less_than_positive, (less_than_add1, tt)))) refl

pub less_than_one_more_at : (h : History) (x : Term) → IsTerm (symbols_of h) x → Derivable h (clause ((call2 "LESSP" x (call1 "ADD1" x)) ∷ []))
less_than_one_more_at h x ox =
    by_law h [] (call2 "LESSP" (variable "X") (call1 "ADD1" (variable "X"))) ((codes "X", x) ∷ []) (grown less_than_one_more_clause less_than_one_more h) tt ((lessp_symbol h, ox), (add1_symbol h, ox))

-- (NOT (LESSP E (ADD1 Y))), (LESSP E (ADD1 (PLUS X Y)))
abbrev less_than_longer_sum_log : List LogLine
less_than_longer_sum_log =
    Ruled (AxiomRow (codes "FALSE") 1 0)
    ∷ Ruled (Instance 3 ((codes "X", (call2 "PLUS" (variable "X") (variable "Y"))) ∷ []))
    ∷ Ruled (Instance 1 ((codes "X1", (call2 "PLUS" (variable "X") (variable "Y"))) ∷ []))
    ∷ Ruled (Cut 2 11 (call1 "NUMBERP" (call2 "PLUS" (variable "X") (variable "Y"))))
    ∷ Ruled (Instance 4 ((codes "X", (variable "Y")) ∷ (codes "Y", (variable "X")) ∷ []))
    ∷ Ruled (Instance 6 ((codes "X", (variable "E")) ∷ (codes "Y", (call1 "ADD1" (call2 "PLUS" (variable "X") (variable "Y")))) ∷ (codes "Z", (call1 "ADD1" (variable "Y"))) ∷ []))
    ∷ Ruled (Instance 7 ((codes "A", (variable "Y")) ∷ (codes "B", (call1 "ADD1" (call2 "PLUS" (variable "X") (variable "Y")))) ∷ []))
    ∷ Ruled (Taut ((call1 "ZEROP" (call1 "ADD1" (call2 "PLUS" (variable "X") (variable "Y")))) ∷ (call1 "NOT" (call1 "ZEROP" (call1 "ADD1" (call2 "PLUS" (variable "X") (variable "Y"))))) ∷ []))
    ∷ Ruled (Replace 16 1 [] (call0 "FALSE") Forwards)
    ∷ Ruled (Cut 17 9 (call0 "FALSE"))
    ∷ Ruled (Cut 10 18 (call2 "EQUAL" (call1 "ZEROP" (call1 "ADD1" (call2 "PLUS" (variable "X") (variable "Y")))) (call0 "FALSE")))
    ∷ Ruled (Cut 15 19 (call1 "ZEROP" (call1 "ADD1" (call2 "PLUS" (variable "X") (variable "Y")))))
    ∷ Ruled (Replace 20 1 (2 ∷ 1 ∷ []) (call2 "PLUS" (variable "X") (variable "Y")) Forwards)
    ∷ Ruled (Cut 12 21 (call2 "EQUAL" (call1 "SUB1" (call1 "ADD1" (call2 "PLUS" (variable "X") (variable "Y")))) (call2 "PLUS" (variable "X") (variable "Y"))))
    ∷ Ruled (Replace 14 1 [] (call2 "LESSP" (call2 "PLUS" (variable "X") (variable "Y")) (variable "Y")) Forwards)
    ∷ Ruled (Cut 22 23 (call2 "EQUAL" (call2 "LESSP" (call1 "ADD1" (call2 "PLUS" (variable "X") (variable "Y"))) (call1 "ADD1" (variable "Y"))) (call2 "LESSP" (call2 "PLUS" (variable "X") (variable "Y")) (variable "Y"))))
    ∷ Ruled (Instance 5 ((codes "X", (variable "Y")) ∷ (codes "Y", (variable "X")) ∷ []))
    ∷ Ruled (Replace 25 1 (2 ∷ 1 ∷ []) (call2 "PLUS" (variable "X") (variable "Y")) Forwards)
    ∷ Ruled (Cut 13 26 (call2 "EQUAL" (call2 "PLUS" (variable "Y") (variable "X")) (call2 "PLUS" (variable "X") (variable "Y"))))
    ∷ Ruled (Instance 8 ((codes "A", (call2 "PLUS" (variable "X") (variable "Y"))) ∷ (codes "B", (variable "Y")) ∷ []))
    ∷ Ruled (Cut 27 28 (call2 "LESSP" (variable "Y") (call1 "ADD1" (call2 "PLUS" (variable "X") (variable "Y")))))
    ∷ Ruled (Cut 24 29 (call2 "LESSP" (call2 "PLUS" (variable "X") (variable "Y")) (variable "Y")))
    ∷ Ruled (Taut ((call1 "NOT" (call2 "LESSP" (variable "E") (call1 "ADD1" (call2 "PLUS" (variable "X") (variable "Y"))))) ∷ (call2 "LESSP" (variable "E") (call1 "ADD1" (call2 "PLUS" (variable "X") (variable "Y")))) ∷ []))
    ∷ Ruled (Cut 30 31 (call2 "LESSP" (variable "E") (call1 "ADD1" (call2 "PLUS" (variable "X") (variable "Y"))))) ∷ []

pub less_than_longer_sum : Derivable [] (clause less_than_longer_sum_clause)
unfolding symbols_of number_of
less_than_longer_sum = everywhere (sub1_of_add1_clause ∷ sum_is_number_clause ∷ add1_is_not_zero_clause ∷ sum_commutes_clause ∷ less_than_sum_clause ∷ less_is_split_clause ∷ less_than_add1_clause ∷ less_turns_clause ∷ []) less_than_longer_sum_log less_than_longer_sum_clause refl (sub1_of_add1, (sum_is_number, (add1_is_not_zero, (sum_commutes, (less_than_sum, (less_is_split, (less_than_add1, (less_turns, tt)))))))) refl

pub less_than_longer_sum_at : (h : History) (e x y : Term) → IsTerm (symbols_of h) e → IsTerm (symbols_of h) x → IsTerm (symbols_of h) y → Derivable h (clause ((call2 "LESSP" e (call1 "ADD1" y)) ∷ [])) → Derivable h (clause ((call2 "LESSP" e (call1 "ADD1" (call2 "PLUS" x y))) ∷ []))
less_than_longer_sum_at h e x y oe ox oy d1 =
    by_law h ((call2 "LESSP" (variable "E") (call1 "ADD1" (variable "Y"))) ∷ []) (call2 "LESSP" (variable "E") (call1 "ADD1" (call2 "PLUS" (variable "X") (variable "Y")))) ((codes "E", e) ∷ (codes "X", x) ∷ (codes "Y", y) ∷ []) (grown less_than_longer_sum_clause less_than_longer_sum h) (d1, tt) ((lessp_symbol h, oe), (add1_symbol h, ((plus_symbol h, ox), oy)))

-- (NOT P), (NOT (LESSP (IF P D 0) (ADD1 S))), (NOT (EQUAL (COUNT C) (ADD1 S))), (NOT (EQUAL C X)), (LESSP D (COUNT X))
abbrev part_is_smaller_log : List LogLine
part_is_smaller_log =
    Ruled (Taut ((call2 "LESSP" (call3 "IF" (variable "P") (variable "D") (call0 "ZERO")) (call1 "ADD1" (variable "S"))) ∷ (call1 "NOT" (call2 "LESSP" (call3 "IF" (variable "P") (variable "D") (call0 "ZERO")) (call1 "ADD1" (variable "S")))) ∷ []))
    ∷ Ruled (Replace 2 1 (2 ∷ []) (call1 "COUNT" (variable "C")) Backwards)
    ∷ Ruled (Replace 3 1 (2 ∷ 1 ∷ []) (variable "X") Forwards)
    ∷ Ruled (Instance 1 ((codes "X", (variable "P")) ∷ (codes "Y", (variable "D")) ∷ (codes "Z", (call0 "ZERO")) ∷ []))
    ∷ Ruled (Replace 4 1 (1 ∷ []) (variable "D") Forwards)
    ∷ Ruled (Cut 5 6 (call2 "EQUAL" (call3 "IF" (variable "P") (variable "D") (call0 "ZERO")) (variable "D")))
    ∷ Ruled (Taut ((call1 "NOT" (call2 "LESSP" (variable "D") (call1 "COUNT" (variable "X")))) ∷ (call2 "LESSP" (variable "D") (call1 "COUNT" (variable "X"))) ∷ []))
    ∷ Ruled (Cut 7 8 (call2 "LESSP" (variable "D") (call1 "COUNT" (variable "X")))) ∷ []

pub part_is_smaller : Derivable [] (clause part_is_smaller_clause)
unfolding symbols_of number_of
part_is_smaller = everywhere (if_of_truth_clause ∷ []) part_is_smaller_log part_is_smaller_clause refl (if_of_truth, tt) refl

pub part_is_smaller_clause_at : (h : History) (c d p s x : Term) → IsTerm (symbols_of h) c → IsTerm (symbols_of h) d → IsTerm (symbols_of h) p → IsTerm (symbols_of h) s → IsTerm (symbols_of h) x → Derivable h (clause ((call1 "NOT" p) ∷ (call1 "NOT" (call2 "LESSP" (call3 "IF" p d (call0 "ZERO")) (call1 "ADD1" s))) ∷ (call1 "NOT" (call2 "EQUAL" (call1 "COUNT" c) (call1 "ADD1" s))) ∷ (call1 "NOT" (call2 "EQUAL" c x)) ∷ (call2 "LESSP" d (call1 "COUNT" x)) ∷ []))
part_is_smaller_clause_at h c d p s x oc od op os ox =
    instance_law h ((codes "C", c) ∷ (codes "D", d) ∷ (codes "P", p) ∷ (codes "S", s) ∷ (codes "X", x) ∷ []) part_is_smaller_clause (grown part_is_smaller_clause part_is_smaller h) ((not_symbol h, op), ((not_symbol h, ((lessp_symbol h, (((if_symbol h, op), od), (zero_symbol h))), (add1_symbol h, os))), ((not_symbol h, ((equal_symbol h, (count_symbol h, oc)), (add1_symbol h, os))), ((not_symbol h, ((equal_symbol h, oc), ox)), (((lessp_symbol h, od), (count_symbol h, ox)), tt)))))

-- (ZEROP X), (LESSP (COUNT (SUB1 X)) (COUNT X))
abbrev one_less_is_smaller_log : List LogLine
one_less_is_smaller_log =
    Ruled (Instance 2 ((codes "X", (call1 "COUNT" (call1 "SUB1" (variable "X")))) ∷ []))
    ∷ Ruled (Replace 3 1 (2 ∷ []) (call1 "COUNT" (variable "X")) Backwards)
    ∷ Ruled (Cut 1 4 (call2 "EQUAL" (call1 "COUNT" (variable "X")) (call1 "ADD1" (call1 "COUNT" (call1 "SUB1" (variable "X")))))) ∷ []

pub one_less_is_smaller : Derivable [] (clause one_less_is_smaller_clause)
unfolding symbols_of number_of
one_less_is_smaller = everywhere (size_of_positive_clause ∷ less_than_one_more_clause ∷ []) one_less_is_smaller_log one_less_is_smaller_clause refl (size_of_positive, (less_than_one_more, tt)) refl

-- (NOT (LITATOM X)), (LESSP (COUNT (UNPACK X)) (COUNT X))
abbrev atom_part_is_smaller_log : List LogLine
atom_part_is_smaller_log =
    Ruled (AxiomRow (codes "PACK") 14 0)
    ∷ Ruled (Instance 4 ((codes "X1", (call1 "UNPACK" (variable "X"))) ∷ []))
    ∷ Ruled (AxiomRow (codes "PACK") 5 0)
    ∷ Ruled (Replace 5 1 (1 ∷ 1 ∷ []) (variable "X") Forwards)
    ∷ Ruled (Cut 6 7 (call2 "EQUAL" (call1 "PACK" (call1 "UNPACK" (variable "X"))) (variable "X")))
    ∷ Ruled (Instance 1 ((codes "X", (call0 "TRUE")) ∷ (codes "Y", (call1 "COUNT" (call1 "UNPACK" (variable "X")))) ∷ (codes "Z", (call0 "ZERO")) ∷ []))
    ∷ Ruled (Cut 2 9 (call0 "TRUE"))
    ∷ Ruled (Instance 3 ((codes "X", (call1 "COUNT" (call1 "UNPACK" (variable "X")))) ∷ []))
    ∷ Ruled (Replace 11 1 (2 ∷ 1 ∷ []) (call3 "IF" (call0 "TRUE") (call1 "COUNT" (call1 "UNPACK" (variable "X"))) (call0 "ZERO")) Backwards)
    ∷ Ruled (Cut 10 12 (call2 "EQUAL" (call3 "IF" (call0 "TRUE") (call1 "COUNT" (call1 "UNPACK" (variable "X"))) (call0 "ZERO")) (call1 "COUNT" (call1 "UNPACK" (variable "X")))))
    ∷ Ruled (Replace 13 1 (2 ∷ []) (call1 "COUNT" (variable "X")) Backwards)
    ∷ Ruled (Cut 8 14 (call2 "EQUAL" (call1 "COUNT" (variable "X")) (call1 "ADD1" (call3 "IF" (call0 "TRUE") (call1 "COUNT" (call1 "UNPACK" (variable "X"))) (call0 "ZERO"))))) ∷ []

pub atom_part_is_smaller : Derivable [] (clause atom_part_is_smaller_clause)
unfolding symbols_of number_of
atom_part_is_smaller = everywhere (if_of_truth_clause ∷ truth_is_true_clause ∷ less_than_one_more_clause ∷ []) atom_part_is_smaller_log atom_part_is_smaller_clause refl (if_of_truth, (truth_is_true, (less_than_one_more, tt))) refl

pub atom_part_is_smaller_at : (h : History) (x : Term) → IsTerm (symbols_of h) x → Derivable h (clause ((call1 "LITATOM" x) ∷ [])) → Derivable h (clause ((call2 "LESSP" (call1 "COUNT" (call1 "UNPACK" x)) (call1 "COUNT" x)) ∷ []))
atom_part_is_smaller_at h x ox d1 =
    by_law h ((call1 "LITATOM" (variable "X")) ∷ []) (call2 "LESSP" (call1 "COUNT" (call1 "UNPACK" (variable "X"))) (call1 "COUNT" (variable "X"))) ((codes "X", x) ∷ []) (grown atom_part_is_smaller_clause atom_part_is_smaller h) (d1, tt) ((lessp_symbol h, (count_symbol h, (unpack_symbol h, ox))), (count_symbol h, ox))

-- (NOT (NEGATIVEP X)), (LESSP (COUNT (NEGATIVE-GUTS X)) (COUNT X))
abbrev negative_part_is_smaller_log : List LogLine
negative_part_is_smaller_log =
    Ruled (AxiomRow (codes "MINUS") 7 1)
    ∷ Ruled (Instance 4 ((codes "X1", (call1 "NEGATIVE-GUTS" (variable "X"))) ∷ []))
    ∷ Ruled (AxiomRow (codes "MINUS") 5 0)
    ∷ Ruled (Replace 5 2 (1 ∷ 1 ∷ []) (variable "X") Forwards)
    ∷ Ruled (Cut 6 7 (call2 "EQUAL" (call1 "MINUS" (call1 "NEGATIVE-GUTS" (variable "X"))) (variable "X")))
    ∷ Ruled (Replace 1 1 (1 ∷ []) (call1 "NEGATIVE-GUTS" (variable "X")) Backwards)
    ∷ Ruled (Cut 8 9 (call2 "EQUAL" (call1 "NEGATIVE-GUTS" (variable "X")) (call0 "ZERO")))
    ∷ Ruled (AxiomRow (codes "MINUS") 14 0)
    ∷ Ruled (Instance 11 ((codes "X1", (call1 "NEGATIVE-GUTS" (variable "X"))) ∷ []))
    ∷ Ruled (Replace 12 1 (1 ∷ 1 ∷ []) (variable "X") Forwards)
    ∷ Ruled (Cut 6 13 (call2 "EQUAL" (call1 "MINUS" (call1 "NEGATIVE-GUTS" (variable "X"))) (variable "X")))
    ∷ Ruled (Instance 2 ((codes "X", (call1 "NUMBERP" (call1 "NEGATIVE-GUTS" (variable "X")))) ∷ (codes "Y", (call1 "COUNT" (call1 "NEGATIVE-GUTS" (variable "X")))) ∷ (codes "Z", (call0 "ZERO")) ∷ []))
    ∷ Ruled (Instance 3 ((codes "X", (call1 "COUNT" (call1 "NEGATIVE-GUTS" (variable "X")))) ∷ []))
    ∷ Ruled (Replace 16 1 (2 ∷ 1 ∷ []) (call3 "IF" (call1 "NUMBERP" (call1 "NEGATIVE-GUTS" (variable "X"))) (call1 "COUNT" (call1 "NEGATIVE-GUTS" (variable "X"))) (call0 "ZERO")) Backwards)
    ∷ Ruled (Cut 15 17 (call2 "EQUAL" (call3 "IF" (call1 "NUMBERP" (call1 "NEGATIVE-GUTS" (variable "X"))) (call1 "COUNT" (call1 "NEGATIVE-GUTS" (variable "X"))) (call0 "ZERO")) (call1 "COUNT" (call1 "NEGATIVE-GUTS" (variable "X")))))
    ∷ Ruled (Cut 10 18 (call1 "NUMBERP" (call1 "NEGATIVE-GUTS" (variable "X"))))
    ∷ Ruled (Replace 19 2 (2 ∷ []) (call1 "COUNT" (variable "X")) Backwards)
    ∷ Ruled (Cut 14 20 (call2 "EQUAL" (call1 "COUNT" (variable "X")) (call1 "ADD1" (call3 "IF" (call1 "NUMBERP" (call1 "NEGATIVE-GUTS" (variable "X"))) (call1 "COUNT" (call1 "NEGATIVE-GUTS" (variable "X"))) (call0 "ZERO"))))) ∷ []

pub negative_part_is_smaller : Derivable [] (clause negative_part_is_smaller_clause)
unfolding symbols_of number_of
negative_part_is_smaller = everywhere (zero_is_number_clause ∷ if_of_truth_clause ∷ less_than_one_more_clause ∷ []) negative_part_is_smaller_log negative_part_is_smaller_clause refl (zero_is_number, (if_of_truth, (less_than_one_more, tt))) refl

pub negative_part_is_smaller_at : (h : History) (x : Term) → IsTerm (symbols_of h) x → Derivable h (clause ((call1 "NEGATIVEP" x) ∷ [])) → Derivable h (clause ((call2 "LESSP" (call1 "COUNT" (call1 "NEGATIVE-GUTS" x)) (call1 "COUNT" x)) ∷ []))
negative_part_is_smaller_at h x ox d1 =
    by_law h ((call1 "NEGATIVEP" (variable "X")) ∷ []) (call2 "LESSP" (call1 "COUNT" (call1 "NEGATIVE-GUTS" (variable "X"))) (call1 "COUNT" (variable "X"))) ((codes "X", x) ∷ []) (grown negative_part_is_smaller_clause negative_part_is_smaller h) (d1, tt) ((lessp_symbol h, (count_symbol h, (negative_guts_symbol h, ox))), (count_symbol h, ox))

-- (NOT (LESSP (COUNT Y) (COUNT Z))), (NOT (LESSP (COUNT X) (COUNT Y))), (LESSP (COUNT X) (COUNT Z))
abbrev sizes_descend_log : List LogLine
sizes_descend_log =
    Ruled (Instance 1 ((codes "X", (call1 "COUNT" (variable "X"))) ∷ (codes "Y", (call1 "COUNT" (variable "Y"))) ∷ (codes "Z", (call1 "COUNT" (variable "Z"))) ∷ [])) ∷ []

pub sizes_descend : Derivable [] (clause sizes_descend_clause)
unfolding symbols_of number_of
sizes_descend = everywhere (less_is_transitive_clause ∷ []) sizes_descend_log sizes_descend_clause refl (less_is_transitive, tt) refl

pub sizes_descend_clause_at : (h : History) (x y z : Term) → IsTerm (symbols_of h) x → IsTerm (symbols_of h) y → IsTerm (symbols_of h) z → Derivable h (clause ((call1 "NOT" (call2 "LESSP" (call1 "COUNT" y) (call1 "COUNT" z))) ∷ (call1 "NOT" (call2 "LESSP" (call1 "COUNT" x) (call1 "COUNT" y))) ∷ (call2 "LESSP" (call1 "COUNT" x) (call1 "COUNT" z)) ∷ []))
sizes_descend_clause_at h x y z ox oy oz =
    instance_law h ((codes "X", x) ∷ (codes "Y", y) ∷ (codes "Z", z) ∷ []) sizes_descend_clause (grown sizes_descend_clause sizes_descend h) ((not_symbol h, ((lessp_symbol h, (count_symbol h, oy)), (count_symbol h, oz))), ((not_symbol h, ((lessp_symbol h, (count_symbol h, ox)), (count_symbol h, oy))), (((lessp_symbol h, (count_symbol h, ox)), (count_symbol h, oz)), tt)))

-- (NOT (LESSP (COUNT X) (COUNT Y))), (ORD-LESSP (COUNT X) (COUNT Y))
abbrev smaller_is_below_log : List LogLine
smaller_is_below_log =
    Ruled (AxiomRow (codes "CONS") 13 1)
    ∷ Ruled (AxiomRow (codes "COUNT") 1 0)
    ∷ Ruled (Instance 2 ((codes "X", (call1 "COUNT" (variable "X"))) ∷ []))
    ∷ Ruled (Cut 3 4 (call1 "NUMBERP" (call1 "COUNT" (variable "X"))))
    ∷ Ruled (Instance 1 ((codes "X", (call1 "COUNT" (variable "X"))) ∷ (codes "Y", (call1 "COUNT" (variable "Y"))) ∷ []))
    ∷ Ruled (Cut 6 5 (call1 "LISTP" (call1 "COUNT" (variable "X"))))
    ∷ Ruled (Instance 3 ((codes "X", (variable "Y")) ∷ []))
    ∷ Ruled (Instance 2 ((codes "X", (call1 "COUNT" (variable "Y"))) ∷ []))
    ∷ Ruled (Cut 8 9 (call1 "NUMBERP" (call1 "COUNT" (variable "Y"))))
    ∷ Ruled (Cut 7 10 (call1 "LISTP" (call1 "COUNT" (variable "Y"))))
    ∷ Ruled (Taut ((call2 "LESSP" (call1 "COUNT" (variable "X")) (call1 "COUNT" (variable "Y"))) ∷ (call1 "NOT" (call2 "LESSP" (call1 "COUNT" (variable "X")) (call1 "COUNT" (variable "Y")))) ∷ []))
    ∷ Ruled (Replace 12 1 [] (call2 "ORD-LESSP" (call1 "COUNT" (variable "X")) (call1 "COUNT" (variable "Y"))) Backwards)
    ∷ Ruled (Cut 11 13 (call2 "EQUAL" (call2 "ORD-LESSP" (call1 "COUNT" (variable "X")) (call1 "COUNT" (variable "Y"))) (call2 "LESSP" (call1 "COUNT" (variable "X")) (call1 "COUNT" (variable "Y")))))
    ∷ Ruled (Taut ((call1 "NOT" (call2 "ORD-LESSP" (call1 "COUNT" (variable "X")) (call1 "COUNT" (variable "Y")))) ∷ (call2 "ORD-LESSP" (call1 "COUNT" (variable "X")) (call1 "COUNT" (variable "Y"))) ∷ []))
    ∷ Ruled (Cut 14 15 (call2 "ORD-LESSP" (call1 "COUNT" (variable "X")) (call1 "COUNT" (variable "Y")))) ∷ []

pub smaller_is_below : Derivable [] (clause smaller_is_below_clause)
unfolding symbols_of number_of
smaller_is_below = everywhere (ordinal_less_is_less_clause ∷ []) smaller_is_below_log smaller_is_below_clause refl (ordinal_less_is_less, tt) refl

pub smaller_is_below_clause_at : (h : History) (x y : Term) → IsTerm (symbols_of h) x → IsTerm (symbols_of h) y → Derivable h (clause ((call1 "NOT" (call2 "LESSP" (call1 "COUNT" x) (call1 "COUNT" y))) ∷ (call2 "ORD-LESSP" (call1 "COUNT" x) (call1 "COUNT" y)) ∷ []))
smaller_is_below_clause_at h x y ox oy =
    instance_law h ((codes "X", x) ∷ (codes "Y", y) ∷ []) smaller_is_below_clause (grown smaller_is_below_clause smaller_is_below h) ((not_symbol h, ((lessp_symbol h, (count_symbol h, ox)), (count_symbol h, oy))), (((ord_lessp_symbol h, (count_symbol h, ox)), (count_symbol h, oy)), tt))

-- (ORDINALP (FIX X))
abbrev fix_is_ordinal_log : List LogLine
fix_is_ordinal_log =
    Ruled (AxiomRow (codes "IF") 1 0)
    ∷ Ruled (AxiomRow (codes "CONS") 13 1)
    ∷ Ruled (AxiomRow (codes "ORDINALP") 1 0)
    ∷ Ruled (Instance 3 ((codes "X", (call1 "FIX" (variable "X"))) ∷ []))
    ∷ Ruled (Cut 1 5 (call1 "NUMBERP" (call1 "FIX" (variable "X"))))
    ∷ Ruled (Instance 4 ((codes "X", (call1 "FIX" (variable "X"))) ∷ []))
    ∷ Ruled (Instance 2 ((codes "X", (call1 "LISTP" (call1 "FIX" (variable "X")))) ∷ (codes "Y", (call2 "AND" (call1 "ORDINALP" (call1 "CAR" (call1 "FIX" (variable "X")))) (call2 "AND" (call1 "NOT" (call2 "EQUAL" (call1 "CAR" (call1 "FIX" (variable "X"))) (call0 "ZERO"))) (call2 "AND" (call1 "ORDINALP" (call1 "CDR" (call1 "FIX" (variable "X")))) (call2 "OR" (call1 "NOT" (call1 "LISTP" (call1 "CDR" (call1 "FIX" (variable "X"))))) (call1 "NOT" (call2 "ORD-LESSP" (call1 "CAR" (call1 "FIX" (variable "X"))) (call1 "CAR" (call1 "CDR" (call1 "FIX" (variable "X"))))))))))) ∷ (codes "Z", (call1 "NUMBERP" (call1 "FIX" (variable "X")))) ∷ []))
    ∷ Ruled (Replace 1 1 [] (call3 "IF" (call1 "LISTP" (call1 "FIX" (variable "X"))) (call2 "AND" (call1 "ORDINALP" (call1 "CAR" (call1 "FIX" (variable "X")))) (call2 "AND" (call1 "NOT" (call2 "EQUAL" (call1 "CAR" (call1 "FIX" (variable "X"))) (call0 "ZERO"))) (call2 "AND" (call1 "ORDINALP" (call1 "CDR" (call1 "FIX" (variable "X")))) (call2 "OR" (call1 "NOT" (call1 "LISTP" (call1 "CDR" (call1 "FIX" (variable "X"))))) (call1 "NOT" (call2 "ORD-LESSP" (call1 "CAR" (call1 "FIX" (variable "X"))) (call1 "CAR" (call1 "CDR" (call1 "FIX" (variable "X")))))))))) (call1 "NUMBERP" (call1 "FIX" (variable "X")))) Backwards)
    ∷ Ruled (Cut 8 9 (call2 "EQUAL" (call3 "IF" (call1 "LISTP" (call1 "FIX" (variable "X"))) (call2 "AND" (call1 "ORDINALP" (call1 "CAR" (call1 "FIX" (variable "X")))) (call2 "AND" (call1 "NOT" (call2 "EQUAL" (call1 "CAR" (call1 "FIX" (variable "X"))) (call0 "ZERO"))) (call2 "AND" (call1 "ORDINALP" (call1 "CDR" (call1 "FIX" (variable "X")))) (call2 "OR" (call1 "NOT" (call1 "LISTP" (call1 "CDR" (call1 "FIX" (variable "X"))))) (call1 "NOT" (call2 "ORD-LESSP" (call1 "CAR" (call1 "FIX" (variable "X"))) (call1 "CAR" (call1 "CDR" (call1 "FIX" (variable "X")))))))))) (call1 "NUMBERP" (call1 "FIX" (variable "X")))) (call1 "NUMBERP" (call1 "FIX" (variable "X")))))
    ∷ Ruled (Cut 10 6 (call1 "LISTP" (call1 "FIX" (variable "X"))))
    ∷ Ruled (Replace 11 1 [] (call1 "ORDINALP" (call1 "FIX" (variable "X"))) Backwards)
    ∷ Ruled (Cut 7 12 (call2 "EQUAL" (call1 "ORDINALP" (call1 "FIX" (variable "X"))) (call3 "IF" (call1 "LISTP" (call1 "FIX" (variable "X"))) (call2 "AND" (call1 "ORDINALP" (call1 "CAR" (call1 "FIX" (variable "X")))) (call2 "AND" (call1 "NOT" (call2 "EQUAL" (call1 "CAR" (call1 "FIX" (variable "X"))) (call0 "ZERO"))) (call2 "AND" (call1 "ORDINALP" (call1 "CDR" (call1 "FIX" (variable "X")))) (call2 "OR" (call1 "NOT" (call1 "LISTP" (call1 "CDR" (call1 "FIX" (variable "X"))))) (call1 "NOT" (call2 "ORD-LESSP" (call1 "CAR" (call1 "FIX" (variable "X"))) (call1 "CAR" (call1 "CDR" (call1 "FIX" (variable "X")))))))))) (call1 "NUMBERP" (call1 "FIX" (variable "X")))))) ∷ []

pub fix_is_ordinal : Derivable [] (clause fix_is_ordinal_clause)
unfolding symbols_of number_of
fix_is_ordinal = everywhere (fix_is_number_clause ∷ []) fix_is_ordinal_log fix_is_ordinal_clause refl (fix_is_number, tt) refl

pub fix_is_ordinal_at : (h : History) (x : Term) → IsTerm (symbols_of h) x → Derivable h (clause ((call1 "ORDINALP" (call1 "FIX" x)) ∷ []))
fix_is_ordinal_at h x ox =
    by_law h [] (call1 "ORDINALP" (call1 "FIX" (variable "X"))) ((codes "X", x) ∷ []) (grown fix_is_ordinal_clause fix_is_ordinal h) tt (ordinalp_symbol h, (fix_symbol h, ox))

pub laws_of_descents_hold : AreDerivable laws_of_descents
laws_of_descents_hold h = (grown less_than_one_more_clause less_than_one_more h, (grown less_than_longer_sum_clause less_than_longer_sum h, (grown part_is_smaller_clause part_is_smaller h, (grown one_less_is_smaller_clause one_less_is_smaller h, (grown atom_part_is_smaller_clause atom_part_is_smaller h, (grown negative_part_is_smaller_clause negative_part_is_smaller h, (grown sizes_descend_clause sizes_descend h, (grown smaller_is_below_clause smaller_is_below h, (grown fix_is_ordinal_clause fix_is_ordinal h, tt)))))))))
