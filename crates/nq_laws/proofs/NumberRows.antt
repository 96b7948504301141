-- Laws of the shell of numbers: the rows of its axioms that are no law under another name in the ground history, each by a log over earlier ones, and at terms of any history.
use Rattle.std.proofs.Common.{List, [], ◌∷◌, refl}
use Rattle.std.specs.Prelude.{codes}
use Rattle.nq_logic.specs.Terms.{Term, IsTerm}
use Rattle.nq_logic.specs.Words.{call0, call1, call2, call3}
use Rattle.nq_logic.specs.Histories.{History}
use Rattle.nq_logic.specs.Ground.{symbols_of}
use Rattle.nq_logic.specs.Numerals.{number_of}
use Rattle.nq_logic.specs.Formulas.{clause}
use Rattle.nq_logic.specs.Derivations.{Derivable}
use Rattle.nq_logic.proofs.Clauses.{instance_law}
use Rattle.nq_proof.specs.Rules.{AxiomRow}
use Rattle.nq_proof.specs.Logs.{LogLine, Ruled}
use Rattle.nq_proof.proofs.SoundLogs.{everywhere, grown}
use Rattle.nq_laws.specs.Laws.{AreDerivable}
use Rattle.nq_logic.proofs.Symbols.{add1_symbol, count_symbol, equal_symbol, false_symbol, if_symbol, not_symbol, numberp_symbol, sub1_symbol, true_symbol, zero_symbol}
use Rattle.nq_laws.specs.NumberRows.{number_row_made_is_no_base_clause, number_row_remade_is_same_clause, number_row_part_of_other_clause, number_row_wrong_part_clause, number_row_wrong_part_of_made_clause, number_row_size_of_made_clause, number_row_truth_is_none_clause, number_row_falsity_is_none_clause, number_row_recognizer_is_truth_value_clause, laws_of_number_rows}

-- (NOT (EQUAL (ADD1 X1) 0))
abbrev number_row_made_is_no_base_log : List LogLine
number_row_made_is_no_base_log =
    Ruled (AxiomRow (codes "ADD1") 4 0) ∷ []

pub number_row_made_is_no_base : Derivable [] (clause number_row_made_is_no_base_clause)
unfolding symbols_of number_of
number_row_made_is_no_base = everywhere [] number_row_made_is_no_base_log number_row_made_is_no_base_clause refl tt refl

pub number_row_made_is_no_base_clause_at : (h : History) (x1 : Term) → IsTerm (symbols_of h) x1 → Derivable h (clause ((call1 "NOT" (call2 "EQUAL" (call1 "ADD1" x1) (call0 "ZERO"))) ∷ []))
number_row_made_is_no_base_clause_at h x1 ox1 =
    instance_law h ((codes "X1", x1) ∷ []) number_row_made_is_no_base_clause (grown number_row_made_is_no_base_clause number_row_made_is_no_base h) ((not_symbol h, ((equal_symbol h, (add1_symbol h, ox1)), (zero_symbol h))), tt)

-- (NOT (NUMBERP X)), (EQUAL X 0), (EQUAL (ADD1 (SUB1 X)) X)
abbrev number_row_remade_is_same_log : List LogLine
number_row_remade_is_same_log =
    Ruled (AxiomRow (codes "ADD1") 5 0) ∷ []

pub number_row_remade_is_same : Derivable [] (clause number_row_remade_is_same_clause)
unfolding symbols_of number_of
number_row_remade_is_same = everywhere [] number_row_remade_is_same_log number_row_remade_is_same_clause refl tt refl

pub number_row_remade_is_same_clause_at : (h : History) (x : Term) → IsTerm (symbols_of h) x → Derivable h (clause ((call1 "NOT" (call1 "NUMBERP" x)) ∷ (call2 "EQUAL" x (call0 "ZERO")) ∷ (call2 "EQUAL" (call1 "ADD1" (call1 "SUB1" x)) x) ∷ []))
number_row_remade_is_same_clause_at h x ox =
    instance_law h ((codes "X", x) ∷ []) number_row_remade_is_same_clause (grown number_row_remade_is_same_clause number_row_remade_is_same h) ((not_symbol h, (numberp_symbol h, ox)), (((equal_symbol h, ox), (zero_symbol h)), (((equal_symbol h, (add1_symbol h, (sub1_symbol h, ox))), ox), tt)))

-- (NUMBERP X), (EQUAL (SUB1 X) 0)
abbrev number_row_part_of_other_log : List LogLine
number_row_part_of_other_log =
    Ruled (AxiomRow (codes "ADD1") 8 1) ∷ []

pub number_row_part_of_other : Derivable [] (clause number_row_part_of_other_clause)
unfolding symbols_of number_of
number_row_part_of_other = everywhere [] number_row_part_of_other_log number_row_part_of_other_clause refl tt refl

pub number_row_part_of_other_clause_at : (h : History) (x : Term) → IsTerm (symbols_of h) x → Derivable h (clause ((call1 "NUMBERP" x) ∷ (call2 "EQUAL" (call1 "SUB1" x) (call0 "ZERO")) ∷ []))
number_row_part_of_other_clause_at h x ox =
    instance_law h ((codes "X", x) ∷ []) number_row_part_of_other_clause (grown number_row_part_of_other_clause number_row_part_of_other h) ((numberp_symbol h, ox), (((equal_symbol h, (sub1_symbol h, ox)), (zero_symbol h)), tt))

-- (NUMBERP X1), (EQUAL (ADD1 X1) (ADD1 0))
abbrev number_row_wrong_part_log : List LogLine
number_row_wrong_part_log =
    Ruled (AxiomRow (codes "ADD1") 10 1) ∷ []

pub number_row_wrong_part : Derivable [] (clause number_row_wrong_part_clause)
unfolding symbols_of number_of
number_row_wrong_part = everywhere [] number_row_wrong_part_log number_row_wrong_part_clause refl tt refl

pub number_row_wrong_part_clause_at : (h : History) (x1 : Term) → IsTerm (symbols_of h) x1 → Derivable h (clause ((call1 "NUMBERP" x1) ∷ (call2 "EQUAL" (call1 "ADD1" x1) (call1 "ADD1" (call0 "ZERO"))) ∷ []))
number_row_wrong_part_clause_at h x1 ox1 =
    instance_law h ((codes "X1", x1) ∷ []) number_row_wrong_part_clause (grown number_row_wrong_part_clause number_row_wrong_part h) ((numberp_symbol h, ox1), (((equal_symbol h, (add1_symbol h, ox1)), (add1_symbol h, (zero_symbol h))), tt))

-- (NUMBERP X1), (EQUAL (SUB1 (ADD1 X1)) 0)
abbrev number_row_wrong_part_of_made_log : List LogLine
number_row_wrong_part_of_made_log =
    Ruled (AxiomRow (codes "ADD1") 7 1) ∷ []

pub number_row_wrong_part_of_made : Derivable [] (clause number_row_wrong_part_of_made_clause)
unfolding symbols_of number_of
number_row_wrong_part_of_made = everywhere [] number_row_wrong_part_of_made_log number_row_wrong_part_of_made_clause refl tt refl

pub number_row_wrong_part_of_made_clause_at : (h : History) (x1 : Term) → IsTerm (symbols_of h) x1 → Derivable h (clause ((call1 "NUMBERP" x1) ∷ (call2 "EQUAL" (call1 "SUB1" (call1 "ADD1" x1)) (call0 "ZERO")) ∷ []))
number_row_wrong_part_of_made_clause_at h x1 ox1 =
    instance_law h ((codes "X1", x1) ∷ []) number_row_wrong_part_of_made_clause (grown number_row_wrong_part_of_made_clause number_row_wrong_part_of_made h) ((numberp_symbol h, ox1), (((equal_symbol h, (sub1_symbol h, (add1_symbol h, ox1))), (zero_symbol h)), tt))

-- (EQUAL (COUNT (ADD1 X1)) (ADD1 (IF (NUMBERP X1) (COUNT X1) 0)))
abbrev number_row_size_of_made_log : List LogLine
number_row_size_of_made_log =
    Ruled (AxiomRow (codes "ADD1") 14 0) ∷ []

pub number_row_size_of_made : Derivable [] (clause number_row_size_of_made_clause)
unfolding symbols_of number_of
number_row_size_of_made = everywhere [] number_row_size_of_made_log number_row_size_of_made_clause refl tt refl

pub number_row_size_of_made_clause_at : (h : History) (x1 : Term) → IsTerm (symbols_of h) x1 → Derivable h (clause ((call2 "EQUAL" (call1 "COUNT" (call1 "ADD1" x1)) (call1 "ADD1" (call3 "IF" (call1 "NUMBERP" x1) (call1 "COUNT" x1) (call0 "ZERO")))) ∷ []))
number_row_size_of_made_clause_at h x1 ox1 =
    instance_law h ((codes "X1", x1) ∷ []) number_row_size_of_made_clause (grown number_row_size_of_made_clause number_row_size_of_made h) (((equal_symbol h, (count_symbol h, (add1_symbol h, ox1))), (add1_symbol h, (((if_symbol h, (numberp_symbol h, ox1)), (count_symbol h, ox1)), (zero_symbol h)))), tt)

-- (NOT (NUMBERP T))
abbrev number_row_truth_is_none_log : List LogLine
number_row_truth_is_none_log =
    Ruled (AxiomRow (codes "ADD1") 11 0) ∷ []

pub number_row_truth_is_none : Derivable [] (clause number_row_truth_is_none_clause)
unfolding symbols_of number_of
number_row_truth_is_none = everywhere [] number_row_truth_is_none_log number_row_truth_is_none_clause refl tt refl

pub number_row_truth_is_none_clause_at : (h : History) → Derivable h (clause number_row_truth_is_none_clause)
number_row_truth_is_none_clause_at h = grown number_row_truth_is_none_clause number_row_truth_is_none h

-- (NOT (NUMBERP F))
abbrev number_row_falsity_is_none_log : List LogLine
number_row_falsity_is_none_log =
    Ruled (AxiomRow (codes "ADD1") 12 0) ∷ []

pub number_row_falsity_is_none : Derivable [] (clause number_row_falsity_is_none_clause)
unfolding symbols_of number_of
number_row_falsity_is_none = everywhere [] number_row_falsity_is_none_log number_row_falsity_is_none_clause refl tt refl

pub number_row_falsity_is_none_clause_at : (h : History) → Derivable h (clause number_row_falsity_is_none_clause)
number_row_falsity_is_none_clause_at h = grown number_row_falsity_is_none_clause number_row_falsity_is_none h

-- (EQUAL (NUMBERP X) T), (EQUAL (NUMBERP X) F)
abbrev number_row_recognizer_is_truth_value_log : List LogLine
number_row_recognizer_is_truth_value_log =
    Ruled (AxiomRow (codes "ADD1") 1 0) ∷ []

pub number_row_recognizer_is_truth_value : Derivable [] (clause number_row_recognizer_is_truth_value_clause)
unfolding symbols_of number_of
number_row_recognizer_is_truth_value = everywhere [] number_row_recognizer_is_truth_value_log number_row_recognizer_is_truth_value_clause refl tt refl

pub number_row_recognizer_is_truth_value_clause_at : (h : History) (x : Term) → IsTerm (symbols_of h) x → Derivable h (clause ((call2 "EQUAL" (call1 "NUMBERP" x) (call0 "TRUE")) ∷ (call2 "EQUAL" (call1 "NUMBERP" x) (call0 "FALSE")) ∷ []))
number_row_recognizer_is_truth_value_clause_at h x ox =
    instance_law h ((codes "X", x) ∷ []) number_row_recognizer_is_truth_value_clause (grown number_row_recognizer_is_truth_value_clause number_row_recognizer_is_truth_value h) (((equal_symbol h, (numberp_symbol h, ox)), (true_symbol h)), (((equal_symbol h, (numberp_symbol h, ox)), (false_symbol h)), tt))

pub laws_of_number_rows_hold : AreDerivable laws_of_number_rows
laws_of_number_rows_hold h = (grown number_row_made_is_no_base_clause number_row_made_is_no_base h, (grown number_row_remade_is_same_clause number_row_remade_is_same h, (grown number_row_part_of_other_clause number_row_part_of_other h, (grown number_row_wrong_part_clause number_row_wrong_part h, (grown number_row_wrong_part_of_made_clause number_row_wrong_part_of_made h, (grown number_row_size_of_made_clause number_row_size_of_made h, (grown number_row_truth_is_none_clause number_row_truth_is_none h, (grown number_row_falsity_is_none_clause number_row_falsity_is_none h, (grown number_row_recognizer_is_truth_value_clause number_row_recognizer_is_truth_value h, tt)))))))))
