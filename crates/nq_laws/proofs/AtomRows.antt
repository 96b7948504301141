-- Laws of the shell of literal atoms: the rows of its axioms that are no law under another name in the ground history, each by a log over earlier ones, and at terms of any history.
use Rattle.std.proofs.Common.{List, [], ◌∷◌, refl}
use Rattle.std.specs.Prelude.{codes}
use Rattle.nq_logic.specs.Terms.{Term, IsTerm}
use Rattle.nq_logic.specs.Words.{call0, call1, call2, call3}
use Rattle.nq_logic.specs.Histories.{History}
use Rattle.nq_logic.specs.Ground.{symbols_of}
use Rattle.nq_logic.specs.Numerals.{number_of}
use Rattle.nq_logic.specs.Formulas.{clause}
use Rattle.nq_logic.specs.Derivations.{Derivable}
use Rattle.nq_logic.proofs.Clauses.{instance_law}
use Rattle.nq_proof.specs.Rules.{AxiomRow}
use Rattle.nq_proof.specs.Logs.{LogLine, Ruled}
use Rattle.nq_proof.proofs.SoundLogs.{everywhere, grown}
use Rattle.nq_laws.specs.Laws.{AreDerivable}
use Rattle.nq_logic.proofs.Symbols.{add1_symbol, count_symbol, equal_symbol, false_symbol, if_symbol, listp_symbol, litatom_symbol, not_symbol, numberp_symbol, pack_symbol, true_symbol, unpack_symbol, zero_symbol}
use Rattle.nq_laws.specs.AtomRows.{atom_row_kinds_differ_from_number_clause, atom_row_kinds_differ_from_pair_clause, atom_row_truth_is_none_clause, atom_row_falsity_is_none_clause, atom_row_recognizer_is_truth_value_clause, atom_row_part_of_made_clause, atom_row_part_of_other_clause, atom_row_size_of_made_clause, atom_row_remade_is_same_clause, atom_row_wrong_part_of_made_clause, atom_row_wrong_part_clause, laws_of_atom_rows}

-- (NOT (LITATOM X)), (NOT (NUMBERP X))
abbrev atom_row_kinds_differ_from_number_log : List LogLine
atom_row_kinds_differ_from_number_log =
    Ruled (AxiomRow (codes "PACK") 13 1) ∷ []

pub atom_row_kinds_differ_from_number : Derivable [] (clause atom_row_kinds_differ_from_number_clause)
unfolding symbols_of number_of
atom_row_kinds_differ_from_number = everywhere [] atom_row_kinds_differ_from_number_log atom_row_kinds_differ_from_number_clause refl tt refl

pub atom_row_kinds_differ_from_number_clause_at : (h : History) (x : Term) → IsTerm (symbols_of h) x → Derivable h (clause ((call1 "NOT" (call1 "LITATOM" x)) ∷ (call1 "NOT" (call1 "NUMBERP" x)) ∷ []))
atom_row_kinds_differ_from_number_clause_at h x ox =
    instance_law h ((codes "X", x) ∷ []) atom_row_kinds_differ_from_number_clause (grown atom_row_kinds_differ_from_number_clause atom_row_kinds_differ_from_number h) ((not_symbol h, (litatom_symbol h, ox)), ((not_symbol h, (numberp_symbol h, ox)), tt))

-- (NOT (LITATOM X)), (NOT (LISTP X))
abbrev atom_row_kinds_differ_from_pair_log : List LogLine
atom_row_kinds_differ_from_pair_log =
    Ruled (AxiomRow (codes "PACK") 13 2) ∷ []

pub atom_row_kinds_differ_from_pair : Derivable [] (clause atom_row_kinds_differ_from_pair_clause)
unfolding symbols_of number_of
atom_row_kinds_differ_from_pair = everywhere [] atom_row_kinds_differ_from_pair_log atom_row_kinds_differ_from_pair_clause refl tt refl

pub atom_row_kinds_differ_from_pair_clause_at : (h : History) (x : Term) → IsTerm (symbols_of h) x → Derivable h (clause ((call1 "NOT" (call1 "LITATOM" x)) ∷ (call1 "NOT" (call1 "LISTP" x)) ∷ []))
atom_row_kinds_differ_from_pair_clause_at h x ox =
    instance_law h ((codes "X", x) ∷ []) atom_row_kinds_differ_from_pair_clause (grown atom_row_kinds_differ_from_pair_clause atom_row_kinds_differ_from_pair h) ((not_symbol h, (litatom_symbol h, ox)), ((not_symbol h, (listp_symbol h, ox)), tt))

-- (NOT (LITATOM T))
abbrev atom_row_truth_is_none_log : List LogLine
atom_row_truth_is_none_log =
    Ruled (AxiomRow (codes "PACK") 11 0) ∷ []

pub atom_row_truth_is_none : Derivable [] (clause atom_row_truth_is_none_clause)
unfolding symbols_of number_of
atom_row_truth_is_none = everywhere [] atom_row_truth_is_none_log atom_row_truth_is_none_clause refl tt refl

pub atom_row_truth_is_none_clause_at : (h : History) → Derivable h (clause atom_row_truth_is_none_clause)
atom_row_truth_is_none_clause_at h = grown atom_row_truth_is_none_clause atom_row_truth_is_none h

-- (NOT (LITATOM F))
abbrev atom_row_falsity_is_none_log : List LogLine
atom_row_falsity_is_none_log =
    Ruled (AxiomRow (codes "PACK") 12 0) ∷ []

pub atom_row_falsity_is_none : Derivable [] (clause atom_row_falsity_is_none_clause)
unfolding symbols_of number_of
atom_row_falsity_is_none = everywhere [] atom_row_falsity_is_none_log atom_row_falsity_is_none_clause refl tt refl

pub atom_row_falsity_is_none_clause_at : (h : History) → Derivable h (clause atom_row_falsity_is_none_clause)
atom_row_falsity_is_none_clause_at h = grown atom_row_falsity_is_none_clause atom_row_falsity_is_none h

-- (EQUAL (LITATOM X) T), (EQUAL (LITATOM X) F)
abbrev atom_row_recognizer_is_truth_value_log : List LogLine
atom_row_recognizer_is_truth_value_log =
    Ruled (AxiomRow (codes "PACK") 1 0) ∷ []

pub atom_row_recognizer_is_truth_value : Derivable [] (clause atom_row_recognizer_is_truth_value_clause)
unfolding symbols_of number_of
atom_row_recognizer_is_truth_value = everywhere [] atom_row_recognizer_is_truth_value_log atom_row_recognizer_is_truth_value_clause refl tt refl

pub atom_row_recognizer_is_truth_value_clause_at : (h : History) (x : Term) → IsTerm (symbols_of h) x → Derivable h (clause ((call2 "EQUAL" (call1 "LITATOM" x) (call0 "TRUE")) ∷ (call2 "EQUAL" (call1 "LITATOM" x) (call0 "FALSE")) ∷ []))
atom_row_recognizer_is_truth_value_clause_at h x ox =
    instance_law h ((codes "X", x) ∷ []) atom_row_recognizer_is_truth_value_clause (grown atom_row_recognizer_is_truth_value_clause atom_row_recognizer_is_truth_value h) (((equal_symbol h, (litatom_symbol h, ox)), (true_symbol h)), (((equal_symbol h, (litatom_symbol h, ox)), (false_symbol h)), tt))

-- (NOT T), (EQUAL (UNPACK (PACK X1)) X1)
abbrev atom_row_part_of_made_log : List LogLine
atom_row_part_of_made_log =
    Ruled (AxiomRow (codes "PACK") 6 1) ∷ []

pub atom_row_part_of_made : Derivable [] (clause atom_row_part_of_made_clause)
unfolding symbols_of number_of
atom_row_part_of_made = everywhere [] atom_row_part_of_made_log atom_row_part_of_made_clause refl tt refl

pub atom_row_part_of_made_clause_at : (h : History) (x1 : Term) → IsTerm (symbols_of h) x1 → Derivable h (clause ((call1 "NOT" (call0 "TRUE")) ∷ (call2 "EQUAL" (call1 "UNPACK" (call1 "PACK" x1)) x1) ∷ []))
atom_row_part_of_made_clause_at h x1 ox1 =
    instance_law h ((codes "X1", x1) ∷ []) atom_row_part_of_made_clause (grown atom_row_part_of_made_clause atom_row_part_of_made h) ((not_symbol h, (true_symbol h)), (((equal_symbol h, (unpack_symbol h, (pack_symbol h, ox1))), ox1), tt))

-- (LITATOM X), (EQUAL (UNPACK X) 0)
abbrev atom_row_part_of_other_log : List LogLine
atom_row_part_of_other_log =
    Ruled (AxiomRow (codes "PACK") 8 1) ∷ []

pub atom_row_part_of_other : Derivable [] (clause atom_row_part_of_other_clause)
unfolding symbols_of number_of
atom_row_part_of_other = everywhere [] atom_row_part_of_other_log atom_row_part_of_other_clause refl tt refl

pub atom_row_part_of_other_clause_at : (h : History) (x : Term) → IsTerm (symbols_of h) x → Derivable h (clause ((call1 "LITATOM" x) ∷ (call2 "EQUAL" (call1 "UNPACK" x) (call0 "ZERO")) ∷ []))
atom_row_part_of_other_clause_at h x ox =
    instance_law h ((codes "X", x) ∷ []) atom_row_part_of_other_clause (grown atom_row_part_of_other_clause atom_row_part_of_other h) ((litatom_symbol h, ox), (((equal_symbol h, (unpack_symbol h, ox)), (zero_symbol h)), tt))

-- (EQUAL (COUNT (PACK X1)) (ADD1 (IF T (COUNT X1) 0)))
abbrev atom_row_size_of_made_log : List LogLine
atom_row_size_of_made_log =
    Ruled (AxiomRow (codes "PACK") 14 0) ∷ []

pub atom_row_size_of_made : Derivable [] (clause atom_row_size_of_made_clause)
unfolding symbols_of number_of
atom_row_size_of_made = everywhere [] atom_row_size_of_made_log atom_row_size_of_made_clause refl tt refl

pub atom_row_size_of_made_clause_at : (h : History) (x1 : Term) → IsTerm (symbols_of h) x1 → Derivable h (clause ((call2 "EQUAL" (call1 "COUNT" (call1 "PACK" x1)) (call1 "ADD1" (call3 "IF" (call0 "TRUE") (call1 "COUNT" x1) (call0 "ZERO")))) ∷ []))
atom_row_size_of_made_clause_at h x1 ox1 =
    instance_law h ((codes "X1", x1) ∷ []) atom_row_size_of_made_clause (grown atom_row_size_of_made_clause atom_row_size_of_made h) (((equal_symbol h, (count_symbol h, (pack_symbol h, ox1))), (add1_symbol h, (((if_symbol h, (true_symbol h)), (count_symbol h, ox1)), (zero_symbol h)))), tt)

-- (NOT (LITATOM X)), (EQUAL (PACK (UNPACK X)) X)
abbrev atom_row_remade_is_same_log : List LogLine
atom_row_remade_is_same_log =
    Ruled (AxiomRow (codes "PACK") 5 0) ∷ []

pub atom_row_remade_is_same : Derivable [] (clause atom_row_remade_is_same_clause)
unfolding symbols_of number_of
atom_row_remade_is_same = everywhere [] atom_row_remade_is_same_log atom_row_remade_is_same_clause refl tt refl

pub atom_row_remade_is_same_clause_at : (h : History) (x : Term) → IsTerm (symbols_of h) x → Derivable h (clause ((call1 "NOT" (call1 "LITATOM" x)) ∷ (call2 "EQUAL" (call1 "PACK" (call1 "UNPACK" x)) x) ∷ []))
atom_row_remade_is_same_clause_at h x ox =
    instance_law h ((codes "X", x) ∷ []) atom_row_remade_is_same_clause (grown atom_row_remade_is_same_clause atom_row_remade_is_same h) ((not_symbol h, (litatom_symbol h, ox)), (((equal_symbol h, (pack_symbol h, (unpack_symbol h, ox))), ox), tt))

-- T, (EQUAL (UNPACK (PACK X1)) 0)
abbrev atom_row_wrong_part_of_made_log : List LogLine
atom_row_wrong_part_of_made_log =
    Ruled (AxiomRow (codes "PACK") 7 1) ∷ []

pub atom_row_wrong_part_of_made : Derivable [] (clause atom_row_wrong_part_of_made_clause)
unfolding symbols_of number_of
atom_row_wrong_part_of_made = everywhere [] atom_row_wrong_part_of_made_log atom_row_wrong_part_of_made_clause refl tt refl

pub atom_row_wrong_part_of_made_clause_at : (h : History) (x1 : Term) → IsTerm (symbols_of h) x1 → Derivable h (clause ((call0 "TRUE") ∷ (call2 "EQUAL" (call1 "UNPACK" (call1 "PACK" x1)) (call0 "ZERO")) ∷ []))
atom_row_wrong_part_of_made_clause_at h x1 ox1 =
    instance_law h ((codes "X1", x1) ∷ []) atom_row_wrong_part_of_made_clause (grown atom_row_wrong_part_of_made_clause atom_row_wrong_part_of_made h) ((true_symbol h), (((equal_symbol h, (unpack_symbol h, (pack_symbol h, ox1))), (zero_symbol h)), tt))

-- T, (EQUAL (PACK X1) (PACK 0))
abbrev atom_row_wrong_part_log : List LogLine
atom_row_wrong_part_log =
    Ruled (AxiomRow (codes "PACK") 10 1) ∷ []

pub atom_row_wrong_part : Derivable [] (clause atom_row_wrong_part_clause)
unfolding symbols_of number_of
atom_row_wrong_part = everywhere [] atom_row_wrong_part_log atom_row_wrong_part_clause refl tt refl

pub atom_row_wrong_part_clause_at : (h : History) (x1 : Term) → IsTerm (symbols_of h) x1 → Derivable h (clause ((call0 "TRUE") ∷ (call2 "EQUAL" (call1 "PACK" x1) (call1 "PACK" (call0 "ZERO"))) ∷ []))
atom_row_wrong_part_clause_at h x1 ox1 =
    instance_law h ((codes "X1", x1) ∷ []) atom_row_wrong_part_clause (grown atom_row_wrong_part_clause atom_row_wrong_part h) ((true_symbol h), (((equal_symbol h, (pack_symbol h, ox1)), (pack_symbol h, (zero_symbol h))), tt))

pub laws_of_atom_rows_hold : AreDerivable laws_of_atom_rows
laws_of_atom_rows_hold h = (grown atom_row_kinds_differ_from_number_clause atom_row_kinds_differ_from_number h, (grown atom_row_kinds_differ_from_pair_clause atom_row_kinds_differ_from_pair h, (grown atom_row_truth_is_none_clause atom_row_truth_is_none h, (grown atom_row_falsity_is_none_clause atom_row_falsity_is_none h, (grown atom_row_recognizer_is_truth_value_clause atom_row_recognizer_is_truth_value h, (grown atom_row_part_of_made_clause atom_row_part_of_made h, (grown atom_row_part_of_other_clause atom_row_part_of_other h, (grown atom_row_size_of_made_clause atom_row_size_of_made h, (grown atom_row_remade_is_same_clause atom_row_remade_is_same h, (grown atom_row_wrong_part_of_made_clause atom_row_wrong_part_of_made h, (grown atom_row_wrong_part_clause atom_row_wrong_part h, tt)))))))))))
