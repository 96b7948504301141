-- Laws of the shell of negatives: the rows of its axioms that are no law under another name in the ground history, each by a log over earlier ones, and at terms of any history.
use Rattle.std.proofs.Common.{List, [], ◌∷◌, refl}
use Rattle.std.specs.Prelude.{codes}
use Rattle.nq_logic.specs.Terms.{Term, IsTerm}
use Rattle.nq_logic.specs.Words.{call0, call1, call2, call3}
use Rattle.nq_logic.specs.Histories.{History}
use Rattle.nq_logic.specs.Ground.{symbols_of}
use Rattle.nq_logic.specs.Numerals.{number_of}
use Rattle.nq_logic.specs.Formulas.{clause}
use Rattle.nq_logic.specs.Derivations.{Derivable}
use Rattle.nq_logic.proofs.Clauses.{instance_law}
use Rattle.nq_proof.specs.Rules.{AxiomRow}
use Rattle.nq_proof.specs.Logs.{LogLine, Ruled}
use Rattle.nq_proof.proofs.SoundLogs.{everywhere, grown}
use Rattle.nq_laws.specs.Laws.{AreDerivable}
use Rattle.nq_logic.proofs.Symbols.{add1_symbol, count_symbol, equal_symbol, false_symbol, if_symbol, listp_symbol, litatom_symbol, minus_symbol, negative_guts_symbol, negativep_symbol, not_symbol, numberp_symbol, true_symbol, zero_symbol}
use Rattle.nq_laws.specs.NegativeRows.{negative_row_kinds_differ_from_number_clause, negative_row_kinds_differ_from_pair_clause, negative_row_kinds_differ_from_atom_clause, negative_row_truth_is_none_clause, negative_row_falsity_is_none_clause, negative_row_recognizer_is_truth_value_clause, negative_row_part_of_other_clause, negative_row_wrong_part_clause, negative_row_wrong_part_of_made_clause, negative_row_remade_is_same_clause, negative_row_size_of_made_clause, laws_of_negative_rows}

-- (NOT (NEGATIVEP X)), (NOT (NUMBERP X))
abbrev negative_row_kinds_differ_from_number_log : List LogLine
negative_row_kinds_differ_from_number_log =
    Ruled (AxiomRow (codes "MINUS") 13 1) ∷ []

pub negative_row_kinds_differ_from_number : Derivable [] (clause negative_row_kinds_differ_from_number_clause)
unfolding symbols_of number_of
negative_row_kinds_differ_from_number = everywhere [] negative_row_kinds_differ_from_number_log negative_row_kinds_differ_from_number_clause refl tt refl

pub negative_row_kinds_differ_from_number_clause_at : (h : History) (x : Term) → IsTerm (symbols_of h) x → Derivable h (clause ((call1 "NOT" (call1 "NEGATIVEP" x)) ∷ (call1 "NOT" (call1 "NUMBERP" x)) ∷ []))
negative_row_kinds_differ_from_number_clause_at h x ox =
    instance_law h ((codes "X", x) ∷ []) negative_row_kinds_differ_from_number_clause (grown negative_row_kinds_differ_from_number_clause negative_row_kinds_differ_from_number h) ((not_symbol h, (negativep_symbol h, ox)), ((not_symbol h, (numberp_symbol h, ox)), tt))

-- (NOT (NEGATIVEP X)), (NOT (LISTP X))
abbrev negative_row_kinds_differ_from_pair_log : List LogLine
negative_row_kinds_differ_from_pair_log =
    Ruled (AxiomRow (codes "MINUS") 13 2) ∷ []

pub negative_row_kinds_differ_from_pair : Derivable [] (clause negative_row_kinds_differ_from_pair_clause)
unfolding symbols_of number_of
negative_row_kinds_differ_from_pair = everywhere [] negative_row_kinds_differ_from_pair_log negative_row_kinds_differ_from_pair_clause refl tt refl

pub negative_row_kinds_differ_from_pair_clause_at : (h : History) (x : Term) → IsTerm (symbols_of h) x → Derivable h (clause ((call1 "NOT" (call1 "NEGATIVEP" x)) ∷ (call1 "NOT" (call1 "LISTP" x)) ∷ []))
negative_row_kinds_differ_from_pair_clause_at h x ox =
    instance_law h ((codes "X", x) ∷ []) negative_row_kinds_differ_from_pair_clause (grown negative_row_kinds_differ_from_pair_clause negative_row_kinds_differ_from_pair h) ((not_symbol h, (negativep_symbol h, ox)), ((not_symbol h, (listp_symbol h, ox)), tt))

-- (NOT (NEGATIVEP X)), (NOT (LITATOM X))
abbrev negative_row_kinds_differ_from_atom_log : List LogLine
negative_row_kinds_differ_from_atom_log =
    Ruled (AxiomRow (codes "MINUS") 13 3) ∷ []

pub negative_row_kinds_differ_from_atom : Derivable [] (clause negative_row_kinds_differ_from_atom_clause)
unfolding symbols_of number_of
negative_row_kinds_differ_from_atom = everywhere [] negative_row_kinds_differ_from_atom_log negative_row_kinds_differ_from_atom_clause refl tt refl

pub negative_row_kinds_differ_from_atom_clause_at : (h : History) (x : Term) → IsTerm (symbols_of h) x → Derivable h (clause ((call1 "NOT" (call1 "NEGATIVEP" x)) ∷ (call1 "NOT" (call1 "LITATOM" x)) ∷ []))
negative_row_kinds_differ_from_atom_clause_at h x ox =
    instance_law h ((codes "X", x) ∷ []) negative_row_kinds_differ_from_atom_clause (grown negative_row_kinds_differ_from_atom_clause negative_row_kinds_differ_from_atom h) ((not_symbol h, (negativep_symbol h, ox)), ((not_symbol h, (litatom_symbol h, ox)), tt))

-- (NOT (NEGATIVEP T))
abbrev negative_row_truth_is_none_log : List LogLine
negative_row_truth_is_none_log =
    Ruled (AxiomRow (codes "MINUS") 11 0) ∷ []

pub negative_row_truth_is_none : Derivable [] (clause negative_row_truth_is_none_clause)
unfolding symbols_of number_of
negative_row_truth_is_none = everywhere [] negative_row_truth_is_none_log negative_row_truth_is_none_clause refl tt refl

pub negative_row_truth_is_none_clause_at : (h : History) → Derivable h (clause negative_row_truth_is_none_clause)
negative_row_truth_is_none_clause_at h = grown negative_row_truth_is_none_clause negative_row_truth_is_none h

-- (NOT (NEGATIVEP F))
abbrev negative_row_falsity_is_none_log : List LogLine
negative_row_falsity_is_none_log =
    Ruled (AxiomRow (codes "MINUS") 12 0) ∷ []

pub negative_row_falsity_is_none : Derivable [] (clause negative_row_falsity_is_none_clause)
unfolding symbols_of number_of
negative_row_falsity_is_none = everywhere [] negative_row_falsity_is_none_log negative_row_falsity_is_none_clause refl tt refl

pub negative_row_falsity_is_none_clause_at : (h : History) → Derivable h (clause negative_row_falsity_is_none_clause)
negative_row_falsity_is_none_clause_at h = grown negative_row_falsity_is_none_clause negative_row_falsity_is_none h

-- (EQUAL (NEGATIVEP X) T), (EQUAL (NEGATIVEP X) F)
abbrev negative_row_recognizer_is_truth_value_log : List LogLine
negative_row_recognizer_is_truth_value_log =
    Ruled (AxiomRow (codes "MINUS") 1 0) ∷ []

pub negative_row_recognizer_is_truth_value : Derivable [] (clause negative_row_recognizer_is_truth_value_clause)
unfolding symbols_of number_of
negative_row_recognizer_is_truth_value = everywhere [] negative_row_recognizer_is_truth_value_log negative_row_recognizer_is_truth_value_clause refl tt refl

pub negative_row_recognizer_is_truth_value_clause_at : (h : History) (x : Term) → IsTerm (symbols_of h) x → Derivable h (clause ((call2 "EQUAL" (call1 "NEGATIVEP" x) (call0 "TRUE")) ∷ (call2 "EQUAL" (call1 "NEGATIVEP" x) (call0 "FALSE")) ∷ []))
negative_row_recognizer_is_truth_value_clause_at h x ox =
    instance_law h ((codes "X", x) ∷ []) negative_row_recognizer_is_truth_value_clause (grown negative_row_recognizer_is_truth_value_clause negative_row_recognizer_is_truth_value h) (((equal_symbol h, (negativep_symbol h, ox)), (true_symbol h)), (((equal_symbol h, (negativep_symbol h, ox)), (false_symbol h)), tt))

-- (NEGATIVEP X), (EQUAL (NEGATIVE-GUTS X) 0)
abbrev negative_row_part_of_other_log : List LogLine
negative_row_part_of_other_log =
    Ruled (AxiomRow (codes "MINUS") 8 1) ∷ []

pub negative_row_part_of_other : Derivable [] (clause negative_row_part_of_other_clause)
unfolding symbols_of number_of
negative_row_part_of_other = everywhere [] negative_row_part_of_other_log negative_row_part_of_other_clause refl tt refl

pub negative_row_part_of_other_clause_at : (h : History) (x : Term) → IsTerm (symbols_of h) x → Derivable h (clause ((call1 "NEGATIVEP" x) ∷ (call2 "EQUAL" (call1 "NEGATIVE-GUTS" x) (call0 "ZERO")) ∷ []))
negative_row_part_of_other_clause_at h x ox =
    instance_law h ((codes "X", x) ∷ []) negative_row_part_of_other_clause (grown negative_row_part_of_other_clause negative_row_part_of_other h) ((negativep_symbol h, ox), (((equal_symbol h, (negative_guts_symbol h, ox)), (zero_symbol h)), tt))

-- (NUMBERP X1), (EQUAL (MINUS X1) (MINUS 0))
abbrev negative_row_wrong_part_log : List LogLine
negative_row_wrong_part_log =
    Ruled (AxiomRow (codes "MINUS") 10 1) ∷ []

pub negative_row_wrong_part : Derivable [] (clause negative_row_wrong_part_clause)
unfolding symbols_of number_of
negative_row_wrong_part = everywhere [] negative_row_wrong_part_log negative_row_wrong_part_clause refl tt refl

pub negative_row_wrong_part_clause_at : (h : History) (x1 : Term) → IsTerm (symbols_of h) x1 → Derivable h (clause ((call1 "NUMBERP" x1) ∷ (call2 "EQUAL" (call1 "MINUS" x1) (call1 "MINUS" (call0 "ZERO"))) ∷ []))
negative_row_wrong_part_clause_at h x1 ox1 =
    instance_law h ((codes "X1", x1) ∷ []) negative_row_wrong_part_clause (grown negative_row_wrong_part_clause negative_row_wrong_part h) ((numberp_symbol h, ox1), (((equal_symbol h, (minus_symbol h, ox1)), (minus_symbol h, (zero_symbol h))), tt))

-- (NUMBERP X1), (EQUAL (NEGATIVE-GUTS (MINUS X1)) 0)
abbrev negative_row_wrong_part_of_made_log : List LogLine
negative_row_wrong_part_of_made_log =
    Ruled (AxiomRow (codes "MINUS") 7 1) ∷ []

pub negative_row_wrong_part_of_made : Derivable [] (clause negative_row_wrong_part_of_made_clause)
unfolding symbols_of number_of
negative_row_wrong_part_of_made = everywhere [] negative_row_wrong_part_of_made_log negative_row_wrong_part_of_made_clause refl tt refl

pub negative_row_wrong_part_of_made_clause_at : (h : History) (x1 : Term) → IsTerm (symbols_of h) x1 → Derivable h (clause ((call1 "NUMBERP" x1) ∷ (call2 "EQUAL" (call1 "NEGATIVE-GUTS" (call1 "MINUS" x1)) (call0 "ZERO")) ∷ []))
negative_row_wrong_part_of_made_clause_at h x1 ox1 =
    instance_law h ((codes "X1", x1) ∷ []) negative_row_wrong_part_of_made_clause (grown negative_row_wrong_part_of_made_clause negative_row_wrong_part_of_made h) ((numberp_symbol h, ox1), (((equal_symbol h, (negative_guts_symbol h, (minus_symbol h, ox1))), (zero_symbol h)), tt))

-- (NOT (NEGATIVEP X)), (EQUAL (MINUS (NEGATIVE-GUTS X)) X)
abbrev negative_row_remade_is_same_log : List LogLine
negative_row_remade_is_same_log =
    Ruled (AxiomRow (codes "MINUS") 5 0) ∷ []

pub negative_row_remade_is_same : Derivable [] (clause negative_row_remade_is_same_clause)
unfolding symbols_of number_of
negative_row_remade_is_same = everywhere [] negative_row_remade_is_same_log negative_row_remade_is_same_clause refl tt refl

pub negative_row_remade_is_same_clause_at : (h : History) (x : Term) → IsTerm (symbols_of h) x → Derivable h (clause ((call1 "NOT" (call1 "NEGATIVEP" x)) ∷ (call2 "EQUAL" (call1 "MINUS" (call1 "NEGATIVE-GUTS" x)) x) ∷ []))
negative_row_remade_is_same_clause_at h x ox =
    instance_law h ((codes "X", x) ∷ []) negative_row_remade_is_same_clause (grown negative_row_remade_is_same_clause negative_row_remade_is_same h) ((not_symbol h, (negativep_symbol h, ox)), (((equal_symbol h, (minus_symbol h, (negative_guts_symbol h, ox))), ox), tt))

-- (EQUAL (COUNT (MINUS X1)) (ADD1 (IF (NUMBERP X1) (COUNT X1) 0)))
abbrev negative_row_size_of_made_log : List LogLine
negative_row_size_of_made_log =
    Ruled (AxiomRow (codes "MINUS") 14 0) ∷ []

pub negative_row_size_of_made : Derivable [] (clause negative_row_size_of_made_clause)
unfolding symbols_of number_of
negative_row_size_of_made = everywhere [] negative_row_size_of_made_log negative_row_size_of_made_clause refl tt refl

pub negative_row_size_of_made_clause_at : (h : History) (x1 : Term) → IsTerm (symbols_of h) x1 → Derivable h (clause ((call2 "EQUAL" (call1 "COUNT" (call1 "MINUS" x1)) (call1 "ADD1" (call3 "IF" (call1 "NUMBERP" x1) (call1 "COUNT" x1) (call0 "ZERO")))) ∷ []))
negative_row_size_of_made_clause_at h x1 ox1 =
    instance_law h ((codes "X1", x1) ∷ []) negative_row_size_of_made_clause (grown negative_row_size_of_made_clause negative_row_size_of_made h) (((equal_symbol h, (count_symbol h, (minus_symbol h, ox1))), (add1_symbol h, (((if_symbol h, (numberp_symbol h, ox1)), (count_symbol h, ox1)), (zero_symbol h)))), tt)

pub laws_of_negative_rows_hold : AreDerivable laws_of_negative_rows
laws_of_negative_rows_hold h = (grown negative_row_kinds_differ_from_number_clause negative_row_kinds_differ_from_number h, (grown negative_row_kinds_differ_from_pair_clause negative_row_kinds_differ_from_pair h, (grown negative_row_kinds_differ_from_atom_clause negative_row_kinds_differ_from_atom h, (grown negative_row_truth_is_none_clause negative_row_truth_is_none h, (grown negative_row_falsity_is_none_clause negative_row_falsity_is_none h, (grown negative_row_recognizer_is_truth_value_clause negative_row_recognizer_is_truth_value h, (grown negative_row_part_of_other_clause negative_row_part_of_other h, (grown negative_row_wrong_part_clause negative_row_wrong_part h, (grown negative_row_wrong_part_of_made_clause negative_row_wrong_part_of_made h, (grown negative_row_remade_is_same_clause negative_row_remade_is_same h, (grown negative_row_size_of_made_clause negative_row_size_of_made h, tt)))))))))))
