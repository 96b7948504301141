-- Laws of the shell of pairs: the rows of its axioms that are no law under another name in the ground history, each by a log over earlier ones, and at terms of any history.
use Rattle.std.proofs.Common.{List, [], ◌∷◌, refl}
use Rattle.std.specs.Prelude.{codes}
use Rattle.nq_logic.specs.Terms.{Term, IsTerm}
use Rattle.nq_logic.specs.Words.{call0, call1, call2, call3}
use Rattle.nq_logic.specs.Histories.{History}
use Rattle.nq_logic.specs.Ground.{symbols_of}
use Rattle.nq_logic.specs.Numerals.{number_of}
use Rattle.nq_logic.specs.Formulas.{clause}
use Rattle.nq_logic.specs.Derivations.{Derivable}
use Rattle.nq_logic.proofs.Clauses.{instance_law}
use Rattle.nq_proof.specs.Rules.{AxiomRow}
use Rattle.nq_proof.specs.Logs.{LogLine, Ruled}
use Rattle.nq_proof.proofs.SoundLogs.{everywhere, grown}
use Rattle.nq_laws.specs.Laws.{AreDerivable}
use Rattle.nq_logic.proofs.Symbols.{add1_symbol, car_symbol, cdr_symbol, cons_symbol, count_symbol, equal_symbol, false_symbol, if_symbol, listp_symbol, not_symbol, numberp_symbol, plus_symbol, true_symbol, zero_symbol}
use Rattle.nq_laws.specs.PairRows.{pair_row_kinds_differ_from_number_clause, pair_row_size_of_made_clause, pair_row_remade_is_same_clause, pair_row_truth_is_none_clause, pair_row_falsity_is_none_clause, pair_row_recognizer_is_truth_value_clause, pair_row_part_of_made_car_clause, pair_row_part_of_made_cdr_clause, pair_row_part_of_other_car_clause, pair_row_part_of_other_cdr_clause, pair_row_wrong_part_of_made_car_clause, pair_row_wrong_part_car_clause, pair_row_wrong_part_of_made_cdr_clause, pair_row_wrong_part_cdr_clause, laws_of_pair_rows}

-- (NOT (LISTP X)), (NOT (NUMBERP X))
abbrev pair_row_kinds_differ_from_number_log : List LogLine
pair_row_kinds_differ_from_number_log =
    Ruled (AxiomRow (codes "CONS") 13 1) ∷ []

pub pair_row_kinds_differ_from_number : Derivable [] (clause pair_row_kinds_differ_from_number_clause)
unfolding symbols_of number_of
pair_row_kinds_differ_from_number = everywhere [] pair_row_kinds_differ_from_number_log pair_row_kinds_differ_from_number_clause refl tt refl

pub pair_row_kinds_differ_from_number_clause_at : (h : History) (x : Term) → IsTerm (symbols_of h) x → Derivable h (clause ((call1 "NOT" (call1 "LISTP" x)) ∷ (call1 "NOT" (call1 "NUMBERP" x)) ∷ []))
pair_row_kinds_differ_from_number_clause_at h x ox =
    instance_law h ((codes "X", x) ∷ []) pair_row_kinds_differ_from_number_clause (grown pair_row_kinds_differ_from_number_clause pair_row_kinds_differ_from_number h) ((not_symbol h, (listp_symbol h, ox)), ((not_symbol h, (numberp_symbol h, ox)), tt))

-- (EQUAL (COUNT (CONS X1 X2)) (ADD1 (PLUS (IF T (COUNT X1) 0) (IF T (COUNT X2) 0))))
abbrev pair_row_size_of_made_log : List LogLine
pair_row_size_of_made_log =
    Ruled (AxiomRow (codes "CONS") 14 0) ∷ []

pub pair_row_size_of_made : Derivable [] (clause pair_row_size_of_made_clause)
unfolding symbols_of number_of
pair_row_size_of_made = everywhere [] pair_row_size_of_made_log pair_row_size_of_made_clause refl tt refl

pub pair_row_size_of_made_clause_at : (h : History) (x1 x2 : Term) → IsTerm (symbols_of h) x1 → IsTerm (symbols_of h) x2 → Derivable h (clause ((call2 "EQUAL" (call1 "COUNT" (call2 "CONS" x1 x2)) (call1 "ADD1" (call2 "PLUS" (call3 "IF" (call0 "TRUE") (call1 "COUNT" x1) (call0 "ZERO")) (call3 "IF" (call0 "TRUE") (call1 "COUNT" x2) (call0 "ZERO"))))) ∷ []))
pair_row_size_of_made_clause_at h x1 x2 ox1 ox2 =
    instance_law h ((codes "X1", x1) ∷ (codes "X2", x2) ∷ []) pair_row_size_of_made_clause (grown pair_row_size_of_made_clause pair_row_size_of_made h) (((equal_symbol h, (count_symbol h, ((cons_symbol h, ox1), ox2))), (add1_symbol h, ((plus_symbol h, (((if_symbol h, (true_symbol h)), (count_symbol h, ox1)), (zero_symbol h))), (((if_symbol h, (true_symbol h)), (count_symbol h, ox2)), (zero_symbol h))))), tt)

-- (NOT (LISTP X)), (EQUAL (CONS (CAR X) (CDR X)) X)
abbrev pair_row_remade_is_same_log : List LogLine
pair_row_remade_is_same_log =
    Ruled (AxiomRow (codes "CONS") 5 0) ∷ []

pub pair_row_remade_is_same : Derivable [] (clause pair_row_remade_is_same_clause)
unfolding symbols_of number_of
pair_row_remade_is_same = everywhere [] pair_row_remade_is_same_log pair_row_remade_is_same_clause refl tt refl

pub pair_row_remade_is_same_clause_at : (h : History) (x : Term) → IsTerm (symbols_of h) x → Derivable h (clause ((call1 "NOT" (call1 "LISTP" x)) ∷ (call2 "EQUAL" (call2 "CONS" (call1 "CAR" x) (call1 "CDR" x)) x) ∷ []))
pair_row_remade_is_same_clause_at h x ox =
    instance_law h ((codes "X", x) ∷ []) pair_row_remade_is_same_clause (grown pair_row_remade_is_same_clause pair_row_remade_is_same h) ((not_symbol h, (listp_symbol h, ox)), (((equal_symbol h, ((cons_symbol h, (car_symbol h, ox)), (cdr_symbol h, ox))), ox), tt))

-- (NOT (LISTP T))
abbrev pair_row_truth_is_none_log : List LogLine
pair_row_truth_is_none_log =
    Ruled (AxiomRow (codes "CONS") 11 0) ∷ []

pub pair_row_truth_is_none : Derivable [] (clause pair_row_truth_is_none_clause)
unfolding symbols_of number_of
pair_row_truth_is_none = everywhere [] pair_row_truth_is_none_log pair_row_truth_is_none_clause refl tt refl

pub pair_row_truth_is_none_clause_at : (h : History) → Derivable h (clause pair_row_truth_is_none_clause)
pair_row_truth_is_none_clause_at h = grown pair_row_truth_is_none_clause pair_row_truth_is_none h

-- (NOT (LISTP F))
abbrev pair_row_falsity_is_none_log : List LogLine
pair_row_falsity_is_none_log =
    Ruled (AxiomRow (codes "CONS") 12 0) ∷ []

pub pair_row_falsity_is_none : Derivable [] (clause pair_row_falsity_is_none_clause)
unfolding symbols_of number_of
pair_row_falsity_is_none = everywhere [] pair_row_falsity_is_none_log pair_row_falsity_is_none_clause refl tt refl

pub pair_row_falsity_is_none_clause_at : (h : History) → Derivable h (clause pair_row_falsity_is_none_clause)
pair_row_falsity_is_none_clause_at h = grown pair_row_falsity_is_none_clause pair_row_falsity_is_none h

-- (EQUAL (LISTP X) T), (EQUAL (LISTP X) F)
abbrev pair_row_recognizer_is_truth_value_log : List LogLine
pair_row_recognizer_is_truth_value_log =
    Ruled (AxiomRow (codes "CONS") 1 0) ∷ []

pub pair_row_recognizer_is_truth_value : Derivable [] (clause pair_row_recognizer_is_truth_value_clause)
unfolding symbols_of number_of
pair_row_recognizer_is_truth_value = everywhere [] pair_row_recognizer_is_truth_value_log pair_row_recognizer_is_truth_value_clause refl tt refl

pub pair_row_recognizer_is_truth_value_clause_at : (h : History) (x : Term) → IsTerm (symbols_of h) x → Derivable h (clause ((call2 "EQUAL" (call1 "LISTP" x) (call0 "TRUE")) ∷ (call2 "EQUAL" (call1 "LISTP" x) (call0 "FALSE")) ∷ []))
pair_row_recognizer_is_truth_value_clause_at h x ox =
    instance_law h ((codes "X", x) ∷ []) pair_row_recognizer_is_truth_value_clause (grown pair_row_recognizer_is_truth_value_clause pair_row_recognizer_is_truth_value h) (((equal_symbol h, (listp_symbol h, ox)), (true_symbol h)), (((equal_symbol h, (listp_symbol h, ox)), (false_symbol h)), tt))

-- (NOT T), (EQUAL (CAR (CONS X1 X2)) X1)
abbrev pair_row_part_of_made_car_log : List LogLine
pair_row_part_of_made_car_log =
    Ruled (AxiomRow (codes "CONS") 6 1) ∷ []

pub pair_row_part_of_made_car : Derivable [] (clause pair_row_part_of_made_car_clause)
unfolding symbols_of number_of
pair_row_part_of_made_car = everywhere [] pair_row_part_of_made_car_log pair_row_part_of_made_car_clause refl tt refl

pub pair_row_part_of_made_car_clause_at : (h : History) (x1 x2 : Term) → IsTerm (symbols_of h) x1 → IsTerm (symbols_of h) x2 → Derivable h (clause ((call1 "NOT" (call0 "TRUE")) ∷ (call2 "EQUAL" (call1 "CAR" (call2 "CONS" x1 x2)) x1) ∷ []))
pair_row_part_of_made_car_clause_at h x1 x2 ox1 ox2 =
    instance_law h ((codes "X1", x1) ∷ (codes "X2", x2) ∷ []) pair_row_part_of_made_car_clause (grown pair_row_part_of_made_car_clause pair_row_part_of_made_car h) ((not_symbol h, (true_symbol h)), (((equal_symbol h, (car_symbol h, ((cons_symbol h, ox1), ox2))), ox1), tt))

-- (NOT T), (EQUAL (CDR (CONS X1 X2)) X2)
abbrev pair_row_part_of_made_cdr_log : List LogLine
pair_row_part_of_made_cdr_log =
    Ruled (AxiomRow (codes "CONS") 6 2) ∷ []

pub pair_row_part_of_made_cdr : Derivable [] (clause pair_row_part_of_made_cdr_clause)
unfolding symbols_of number_of
pair_row_part_of_made_cdr = everywhere [] pair_row_part_of_made_cdr_log pair_row_part_of_made_cdr_clause refl tt refl

pub pair_row_part_of_made_cdr_clause_at : (h : History) (x1 x2 : Term) → IsTerm (symbols_of h) x1 → IsTerm (symbols_of h) x2 → Derivable h (clause ((call1 "NOT" (call0 "TRUE")) ∷ (call2 "EQUAL" (call1 "CDR" (call2 "CONS" x1 x2)) x2) ∷ []))
pair_row_part_of_made_cdr_clause_at h x1 x2 ox1 ox2 =
    instance_law h ((codes "X1", x1) ∷ (codes "X2", x2) ∷ []) pair_row_part_of_made_cdr_clause (grown pair_row_part_of_made_cdr_clause pair_row_part_of_made_cdr h) ((not_symbol h, (true_symbol h)), (((equal_symbol h, (cdr_symbol h, ((cons_symbol h, ox1), ox2))), ox2), tt))

-- (LISTP X), (EQUAL (CAR X) 0)
abbrev pair_row_part_of_other_car_log : List LogLine
pair_row_part_of_other_car_log =
    Ruled (AxiomRow (codes "CONS") 8 1) ∷ []

pub pair_row_part_of_other_car : Derivable [] (clause pair_row_part_of_other_car_clause)
unfolding symbols_of number_of
pair_row_part_of_other_car = everywhere [] pair_row_part_of_other_car_log pair_row_part_of_other_car_clause refl tt refl

pub pair_row_part_of_other_car_clause_at : (h : History) (x : Term) → IsTerm (symbols_of h) x → Derivable h (clause ((call1 "LISTP" x) ∷ (call2 "EQUAL" (call1 "CAR" x) (call0 "ZERO")) ∷ []))
pair_row_part_of_other_car_clause_at h x ox =
    instance_law h ((codes "X", x) ∷ []) pair_row_part_of_other_car_clause (grown pair_row_part_of_other_car_clause pair_row_part_of_other_car h) ((listp_symbol h, ox), (((equal_symbol h, (car_symbol h, ox)), (zero_symbol h)), tt))

-- (LISTP X), (EQUAL (CDR X) 0)
abbrev pair_row_part_of_other_cdr_log : List LogLine
pair_row_part_of_other_cdr_log =
    Ruled (AxiomRow (codes "CONS") 8 2) ∷ []

pub pair_row_part_of_other_cdr : Derivable [] (clause pair_row_part_of_other_cdr_clause)
unfolding symbols_of number_of
pair_row_part_of_other_cdr = everywhere [] pair_row_part_of_other_cdr_log pair_row_part_of_other_cdr_clause refl tt refl

pub pair_row_part_of_other_cdr_clause_at : (h : History) (x : Term) → IsTerm (symbols_of h) x → Derivable h (clause ((call1 "LISTP" x) ∷ (call2 "EQUAL" (call1 "CDR" x) (call0 "ZERO")) ∷ []))
pair_row_part_of_other_cdr_clause_at h x ox =
    instance_law h ((codes "X", x) ∷ []) pair_row_part_of_other_cdr_clause (grown pair_row_part_of_other_cdr_clause pair_row_part_of_other_cdr h) ((listp_symbol h, ox), (((equal_symbol h, (cdr_symbol h, ox)), (zero_symbol h)), tt))

-- T, (EQUAL (CAR (CONS X1 X2)) 0)
abbrev pair_row_wrong_part_of_made_car_log : List LogLine
pair_row_wrong_part_of_made_car_log =
    Ruled (AxiomRow (codes "CONS") 7 1) ∷ []

pub pair_row_wrong_part_of_made_car : Derivable [] (clause pair_row_wrong_part_of_made_car_clause)
unfolding symbols_of number_of
pair_row_wrong_part_of_made_car = everywhere [] pair_row_wrong_part_of_made_car_log pair_row_wrong_part_of_made_car_clause refl tt refl

pub pair_row_wrong_part_of_made_car_clause_at : (h : History) (x1 x2 : Term) → IsTerm (symbols_of h) x1 → IsTerm (symbols_of h) x2 → Derivable h (clause ((call0 "TRUE") ∷ (call2 "EQUAL" (call1 "CAR" (call2 "CONS" x1 x2)) (call0 "ZERO")) ∷ []))
pair_row_wrong_part_of_made_car_clause_at h x1 x2 ox1 ox2 =
    instance_law h ((codes "X1", x1) ∷ (codes "X2", x2) ∷ []) pair_row_wrong_part_of_made_car_clause (grown pair_row_wrong_part_of_made_car_clause pair_row_wrong_part_of_made_car h) ((true_symbol h), (((equal_symbol h, (car_symbol h, ((cons_symbol h, ox1), ox2))), (zero_symbol h)), tt))

-- T, (EQUAL (CONS X1 X2) (CONS 0 X2))
abbrev pair_row_wrong_part_car_log : List LogLine
pair_row_wrong_part_car_log =
    Ruled (AxiomRow (codes "CONS") 10 1) ∷ []

pub pair_row_wrong_part_car : Derivable [] (clause pair_row_wrong_part_car_clause)
unfolding symbols_of number_of
pair_row_wrong_part_car = everywhere [] pair_row_wrong_part_car_log pair_row_wrong_part_car_clause refl tt refl

pub pair_row_wrong_part_car_clause_at : (h : History) (x1 x2 : Term) → IsTerm (symbols_of h) x1 → IsTerm (symbols_of h) x2 → Derivable h (clause ((call0 "TRUE") ∷ (call2 "EQUAL" (call2 "CONS" x1 x2) (call2 "CONS" (call0 "ZERO") x2)) ∷ []))
pair_row_wrong_part_car_clause_at h x1 x2 ox1 ox2 =
    instance_law h ((codes "X1", x1) ∷ (codes "X2", x2) ∷ []) pair_row_wrong_part_car_clause (grown pair_row_wrong_part_car_clause pair_row_wrong_part_car h) ((true_symbol h), (((equal_symbol h, ((cons_symbol h, ox1), ox2)), ((cons_symbol h, (zero_symbol h)), ox2)), tt))

-- T, (EQUAL (CDR (CONS X1 X2)) 0)
abbrev pair_row_wrong_part_of_made_cdr_log : List LogLine
pair_row_wrong_part_of_made_cdr_log =
    Ruled (AxiomRow (codes "CONS") 7 2) ∷ []

pub pair_row_wrong_part_of_made_cdr : Derivable [] (clause pair_row_wrong_part_of_made_cdr_clause)
unfolding symbols_of number_of
pair_row_wrong_part_of_made_cdr = everywhere [] pair_row_wrong_part_of_made_cdr_log pair_row_wrong_part_of_made_cdr_clause refl tt refl

pub pair_row_wrong_part_of_made_cdr_clause_at : (h : History) (x1 x2 : Term) → IsTerm (symbols_of h) x1 → IsTerm (symbols_of h) x2 → Derivable h (clause ((call0 "TRUE") ∷ (call2 "EQUAL" (call1 "CDR" (call2 "CONS" x1 x2)) (call0 "ZERO")) ∷ []))
pair_row_wrong_part_of_made_cdr_clause_at h x1 x2 ox1 ox2 =
    instance_law h ((codes "X1", x1) ∷ (codes "X2", x2) ∷ []) pair_row_wrong_part_of_made_cdr_clause (grown pair_row_wrong_part_of_made_cdr_clause pair_row_wrong_part_of_made_cdr h) ((true_symbol h), (((equal_symbol h, (cdr_symbol h, ((cons_symbol h, ox1), ox2))), (zero_symbol h)), tt))

-- T, (EQUAL (CONS X1 X2) (CONS X1 0))
abbrev pair_row_wrong_part_cdr_log : List LogLine
pair_row_wrong_part_cdr_log =
    Ruled (AxiomRow (codes "CONS") 10 2) ∷ []

pub pair_row_wrong_part_cdr : Derivable [] (clause pair_row_wrong_part_cdr_clause)
unfolding symbols_of number_of
pair_row_wrong_part_cdr = everywhere [] pair_row_wrong_part_cdr_log pair_row_wrong_part_cdr_clause refl tt refl

pub pair_row_wrong_part_cdr_clause_at : (h : History) (x1 x2 : Term) → IsTerm (symbols_of h) x1 → IsTerm (symbols_of h) x2 → Derivable h (clause ((call0 "TRUE") ∷ (call2 "EQUAL" (call2 "CONS" x1 x2) (call2 "CONS" x1 (call0 "ZERO"))) ∷ []))
pair_row_wrong_part_cdr_clause_at h x1 x2 ox1 ox2 =
    instance_law h ((codes "X1", x1) ∷ (codes "X2", x2) ∷ []) pair_row_wrong_part_cdr_clause (grown pair_row_wrong_part_cdr_clause pair_row_wrong_part_cdr h) ((true_symbol h), (((equal_symbol h, ((cons_symbol h, ox1), ox2)), ((cons_symbol h, ox1), (zero_symbol h))), tt))

pub laws_of_pair_rows_hold : AreDerivable laws_of_pair_rows
laws_of_pair_rows_hold h = (grown pair_row_kinds_differ_from_number_clause pair_row_kinds_differ_from_number h, (grown pair_row_size_of_made_clause pair_row_size_of_made h, (grown pair_row_remade_is_same_clause pair_row_remade_is_same h, (grown pair_row_truth_is_none_clause pair_row_truth_is_none h, (grown pair_row_falsity_is_none_clause pair_row_falsity_is_none h, (grown pair_row_recognizer_is_truth_value_clause pair_row_recognizer_is_truth_value h, (grown pair_row_part_of_made_car_clause pair_row_part_of_made_car h, (grown pair_row_part_of_made_cdr_clause pair_row_part_of_made_cdr h, (grown pair_row_part_of_other_car_clause pair_row_part_of_other_car h, (grown pair_row_part_of_other_cdr_clause pair_row_part_of_other_cdr h, (grown pair_row_wrong_part_of_made_car_clause pair_row_wrong_part_of_made_car h, (grown pair_row_wrong_part_car_clause pair_row_wrong_part_car h, (grown pair_row_wrong_part_of_made_cdr_clause pair_row_wrong_part_of_made_cdr h, (grown pair_row_wrong_part_cdr_clause pair_row_wrong_part_cdr h, tt))))))))))))))
