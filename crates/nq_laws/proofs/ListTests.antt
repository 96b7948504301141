-- Laws of LISTP on values in the ground history, each by a log over earlier ones, and at terms of any history.
use Rattle.std.proofs.Common.{List, [], ◌∷◌, refl}
use Rattle.std.specs.Prelude.{codes}
use Rattle.nq_logic.specs.Terms.{Term, IsTerm}
use Rattle.nq_logic.specs.Words.{variable, call0, call1, call2}
use Rattle.nq_logic.specs.Histories.{History}
use Rattle.nq_logic.specs.Ground.{symbols_of}
use Rattle.nq_logic.specs.Numerals.{number_of}
use Rattle.nq_logic.specs.Formulas.{clause}
use Rattle.nq_logic.specs.Derivations.{Derivable}
use Rattle.nq_proof.specs.Rules.{Taut, AxiomRow, Cut, Instance, Replace, Forwards, Backwards}
use Rattle.nq_proof.specs.Logs.{LogLine, Ruled}
use Rattle.nq_proof.proofs.SoundLogs.{everywhere, grown}
use Rattle.nq_proof.proofs.ByLaw.{by_law}
use Rattle.nq_laws.specs.Laws.{AreDerivable}
use Rattle.nq_logic.proofs.Symbols.{equal_symbol, false_symbol, listp_symbol, true_symbol}
use Rattle.nq_laws.specs.ListTests.{list_test_of_truth_clause, list_test_of_falsity_clause, list_test_of_list_clause, list_test_of_number_clause, list_test_of_literal_atom_clause, list_test_of_negative_clause, list_is_true_clause, apart_by_first_list_clause, apart_by_second_list_clause, laws_of_list_tests}
use Rattle.nq_laws.specs.TruthValues.{truth_is_no_falsity_clause}
use Rattle.nq_laws.proofs.TruthValues.{truth_is_no_falsity}

-- (EQUAL (LISTP T) F)
abbrev list_test_of_truth_log : List LogLine
list_test_of_truth_log =
    Ruled (AxiomRow (codes "FALSE") 2 0)
    ∷ Ruled (AxiomRow (codes "CONS") 11 0)
    ∷ Ruled (Instance 1 ((codes "X", (call1 "LISTP" (call0 "TRUE"))) ∷ []))
    ∷ Ruled (Cut 3 2 (call1 "LISTP" (call0 "TRUE"))) ∷ []

pub list_test_of_truth : Derivable [] (clause list_test_of_truth_clause)
unfolding symbols_of number_of
list_test_of_truth = everywhere [] list_test_of_truth_log list_test_of_truth_clause refl tt refl

pub list_test_of_truth_at : (h : History) → Derivable h (clause list_test_of_truth_clause)
list_test_of_truth_at h = grown list_test_of_truth_clause list_test_of_truth h

-- (EQUAL (LISTP F) F)
abbrev list_test_of_falsity_log : List LogLine
list_test_of_falsity_log =
    Ruled (AxiomRow (codes "FALSE") 2 0)
    ∷ Ruled (AxiomRow (codes "CONS") 12 0)
    ∷ Ruled (Instance 1 ((codes "X", (call1 "LISTP" (call0 "FALSE"))) ∷ []))
    ∷ Ruled (Cut 3 2 (call1 "LISTP" (call0 "FALSE"))) ∷ []

pub list_test_of_falsity : Derivable [] (clause list_test_of_falsity_clause)
unfolding symbols_of number_of
list_test_of_falsity = everywhere [] list_test_of_falsity_log list_test_of_falsity_clause refl tt refl

pub list_test_of_falsity_at : (h : History) → Derivable h (clause list_test_of_falsity_clause)
list_test_of_falsity_at h = grown list_test_of_falsity_clause list_test_of_falsity h

-- (NOT (LISTP X)), (EQUAL (LISTP X) T)
abbrev list_test_of_list_log : List LogLine
list_test_of_list_log =
    Ruled (AxiomRow (codes "FALSE") 1 0)
    ∷ Ruled (Taut ((call1 "LISTP" (variable "X")) ∷ (call1 "NOT" (call1 "LISTP" (variable "X"))) ∷ []))
    ∷ Ruled (AxiomRow (codes "CONS") 1 0)
    ∷ Ruled (Replace 2 1 [] (call0 "FALSE") Forwards)
    ∷ Ruled (Cut 4 1 (call0 "FALSE"))
    ∷ Ruled (Cut 2 5 (call1 "LISTP" (variable "X")))
    ∷ Ruled (Cut 3 6 (call2 "EQUAL" (call1 "LISTP" (variable "X")) (call0 "FALSE")))
    ∷ Ruled (Taut ((call1 "NOT" (call2 "EQUAL" (call1 "LISTP" (variable "X")) (call0 "TRUE"))) ∷ (call2 "EQUAL" (call1 "LISTP" (variable "X")) (call0 "TRUE")) ∷ []))
    ∷ Ruled (Cut 7 8 (call2 "EQUAL" (call1 "LISTP" (variable "X")) (call0 "TRUE"))) ∷ []

pub list_test_of_list : Derivable [] (clause list_test_of_list_clause)
unfolding symbols_of number_of
list_test_of_list = everywhere [] list_test_of_list_log list_test_of_list_clause refl tt refl

pub list_test_of_list_at : (h : History) (x : Term) → IsTerm (symbols_of h) x → Derivable h (clause ((call1 "LISTP" x) ∷ [])) → Derivable h (clause ((call2 "EQUAL" (call1 "LISTP" x) (call0 "TRUE")) ∷ []))
list_test_of_list_at h x ox d1 =
    by_law h ((call1 "LISTP" (variable "X")) ∷ []) (call2 "EQUAL" (call1 "LISTP" (variable "X")) (call0 "TRUE")) ((codes "X", x) ∷ []) (grown list_test_of_list_clause list_test_of_list h) (d1, tt) ((equal_symbol h, (listp_symbol h, ox)), (true_symbol h))

-- (NOT (NUMBERP X)), (EQUAL (LISTP X) F)
abbrev list_test_of_number_log : List LogLine
list_test_of_number_log =
    Ruled (AxiomRow (codes "CONS") 13 1)
    ∷ Ruled (AxiomRow (codes "FALSE") 2 0)
    ∷ Ruled (Instance 2 ((codes "X", (call1 "LISTP" (variable "X"))) ∷ []))
    ∷ Ruled (Cut 3 1 (call1 "LISTP" (variable "X")))
    ∷ Ruled (Taut ((call1 "NOT" (call2 "EQUAL" (call1 "LISTP" (variable "X")) (call0 "FALSE"))) ∷ (call2 "EQUAL" (call1 "LISTP" (variable "X")) (call0 "FALSE")) ∷ []))
    ∷ Ruled (Cut 4 5 (call2 "EQUAL" (call1 "LISTP" (variable "X")) (call0 "FALSE"))) ∷ []

pub list_test_of_number : Derivable [] (clause list_test_of_number_clause)
unfolding symbols_of number_of
list_test_of_number = everywhere [] list_test_of_number_log list_test_of_number_clause refl tt refl

pub list_test_of_number_at : (h : History) (x : Term) → IsTerm (symbols_of h) x → Derivable h (clause ((call1 "NUMBERP" x) ∷ [])) → Derivable h (clause ((call2 "EQUAL" (call1 "LISTP" x) (call0 "FALSE")) ∷ []))
list_test_of_number_at h x ox d1 =
    by_law h ((call1 "NUMBERP" (variable "X")) ∷ []) (call2 "EQUAL" (call1 "LISTP" (variable "X")) (call0 "FALSE")) ((codes "X", x) ∷ []) (grown list_test_of_number_clause list_test_of_number h) (d1, tt) ((equal_symbol h, (listp_symbol h, ox)), (false_symbol h))

-- (NOT (LITATOM X)), (EQUAL (LISTP X) F)
abbrev list_test_of_literal_atom_log : List LogLine
list_test_of_literal_atom_log =
    Ruled (AxiomRow (codes "FALSE") 2 0)
    ∷ Ruled (Instance 1 ((codes "X", (call1 "LISTP" (variable "X"))) ∷ []))
    ∷ Ruled (Taut ((call1 "NOT" (call2 "EQUAL" (call1 "LISTP" (variable "X")) (call0 "FALSE"))) ∷ (call2 "EQUAL" (call1 "LISTP" (variable "X")) (call0 "FALSE")) ∷ []))
    ∷ Ruled (AxiomRow (codes "PACK") 13 2)
    ∷ Ruled (Cut 2 4 (call1 "LISTP" (variable "X")))
    ∷ Ruled (Cut 5 3 (call2 "EQUAL" (call1 "LISTP" (variable "X")) (call0 "FALSE"))) ∷ []

pub list_test_of_literal_atom : Derivable [] (clause list_test_of_literal_atom_clause)
unfolding symbols_of number_of
list_test_of_literal_atom = everywhere [] list_test_of_literal_atom_log list_test_of_literal_atom_clause refl tt refl

pub list_test_of_literal_atom_at : (h : History) (x : Term) → IsTerm (symbols_of h) x → Derivable h (clause ((call1 "LITATOM" x) ∷ [])) → Derivable h (clause ((call2 "EQUAL" (call1 "LISTP" x) (call0 "FALSE")) ∷ []))
list_test_of_literal_atom_at h x ox d1 =
    by_law h ((call1 "LITATOM" (variable "X")) ∷ []) (call2 "EQUAL" (call1 "LISTP" (variable "X")) (call0 "FALSE")) ((codes "X", x) ∷ []) (grown list_test_of_literal_atom_clause list_test_of_literal_atom h) (d1, tt) ((equal_symbol h, (listp_symbol h, ox)), (false_symbol h))

-- (NOT (NEGATIVEP X)), (EQUAL (LISTP X) F)
abbrev list_test_of_negative_log : List LogLine
list_test_of_negative_log =
    Ruled (AxiomRow (codes "FALSE") 2 0)
    ∷ Ruled (Instance 1 ((codes "X", (call1 "LISTP" (variable "X"))) ∷ []))
    ∷ Ruled (Taut ((call1 "NOT" (call2 "EQUAL" (call1 "LISTP" (variable "X")) (call0 "FALSE"))) ∷ (call2 "EQUAL" (call1 "LISTP" (variable "X")) (call0 "FALSE")) ∷ []))
    ∷ Ruled (AxiomRow (codes "MINUS") 13 2)
    ∷ Ruled (Cut 2 4 (call1 "LISTP" (variable "X")))
    ∷ Ruled (Cut 5 3 (call2 "EQUAL" (call1 "LISTP" (variable "X")) (call0 "FALSE"))) ∷ []

pub list_test_of_negative : Derivable [] (clause list_test_of_negative_clause)
unfolding symbols_of number_of
list_test_of_negative = everywhere [] list_test_of_negative_log list_test_of_negative_clause refl tt refl

pub list_test_of_negative_at : (h : History) (x : Term) → IsTerm (symbols_of h) x → Derivable h (clause ((call1 "NEGATIVEP" x) ∷ [])) → Derivable h (clause ((call2 "EQUAL" (call1 "LISTP" x) (call0 "FALSE")) ∷ []))
list_test_of_negative_at h x ox d1 =
    by_law h ((call1 "NEGATIVEP" (variable "X")) ∷ []) (call2 "EQUAL" (call1 "LISTP" (variable "X")) (call0 "FALSE")) ((codes "X", x) ∷ []) (grown list_test_of_negative_clause list_test_of_negative h) (d1, tt) ((equal_symbol h, (listp_symbol h, ox)), (false_symbol h))

-- (NOT (LISTP X)), X
abbrev list_is_true_log : List LogLine
list_is_true_log =
    Ruled (Taut ((call1 "LISTP" (variable "X")) ∷ (call1 "NOT" (call1 "LISTP" (variable "X"))) ∷ []))
    ∷ Ruled (AxiomRow (codes "FALSE") 2 0)
    ∷ Ruled (Taut ((call1 "NOT" (variable "X")) ∷ (variable "X") ∷ []))
    ∷ Ruled (AxiomRow (codes "CONS") 12 0)
    ∷ Ruled (Replace 1 1 (1 ∷ []) (call0 "FALSE") Forwards)
    ∷ Ruled (Cut 5 4 (call1 "LISTP" (call0 "FALSE")))
    ∷ Ruled (Cut 2 6 (call2 "EQUAL" (variable "X") (call0 "FALSE")))
    ∷ Ruled (Cut 7 3 (variable "X")) ∷ []

pub list_is_true : Derivable [] (clause list_is_true_clause)
unfolding symbols_of number_of
list_is_true = everywhere [] list_is_true_log list_is_true_clause refl tt refl

pub list_is_true_at : (h : History) (x : Term) → IsTerm (symbols_of h) x → Derivable h (clause ((call1 "LISTP" x) ∷ [])) → Derivable h (clause (x ∷ []))
list_is_true_at h x ox d1 =
    by_law h ((call1 "LISTP" (variable "X")) ∷ []) (variable "X") ((codes "X", x) ∷ []) (grown list_is_true_clause list_is_true h) (d1, tt) ox

-- (NOT (EQUAL (LISTP Y) F)), (NOT (EQUAL (LISTP X) T)), (EQUAL (EQUAL X Y) F)
abbrev apart_by_first_list_log : List LogLine
apart_by_first_list_log =
    Ruled (AxiomRow (codes "FALSE") 2 0)
    ∷ Ruled (Instance 2 ((codes "X", (call2 "EQUAL" (variable "X") (variable "Y"))) ∷ []))
    ∷ Ruled (Taut ((call1 "NOT" (call2 "EQUAL" (call2 "EQUAL" (variable "X") (variable "Y")) (call0 "FALSE"))) ∷ (call2 "EQUAL" (call2 "EQUAL" (variable "X") (variable "Y")) (call0 "FALSE")) ∷ []))
    ∷ Ruled (Replace 1 1 (1 ∷ 1 ∷ []) (call1 "LISTP" (variable "Y")) Backwards)
    ∷ Ruled (Replace 5 2 (1 ∷ 1 ∷ 1 ∷ []) (variable "X") Backwards)
    ∷ Ruled (Cut 3 6 (call2 "EQUAL" (variable "X") (variable "Y")))
    ∷ Ruled (Cut 7 4 (call2 "EQUAL" (call2 "EQUAL" (variable "X") (variable "Y")) (call0 "FALSE"))) ∷ []

pub apart_by_first_list : Derivable [] (clause apart_by_first_list_clause)
unfolding symbols_of number_of
apart_by_first_list = everywhere (truth_is_no_falsity_clause ∷ []) apart_by_first_list_log apart_by_first_list_clause refl (truth_is_no_falsity, tt) refl

pub apart_by_first_list_at : (h : History) (x y : Term) → IsTerm (symbols_of h) x → IsTerm (symbols_of h) y → Derivable h (clause ((call2 "EQUAL" (call1 "LISTP" x) (call0 "TRUE")) ∷ [])) → Derivable h (clause ((call2 "EQUAL" (call1 "LISTP" y) (call0 "FALSE")) ∷ [])) → Derivable h (clause ((call2 "EQUAL" (call2 "EQUAL" x y) (call0 "FALSE")) ∷ []))
apart_by_first_list_at h x y ox oy d1 d2 =
    by_law h ((call2 "EQUAL" (call1 "LISTP" (variable "Y")) (call0 "FALSE")) ∷ (call2 "EQUAL" (call1 "LISTP" (variable "X")) (call0 "TRUE")) ∷ []) (call2 "EQUAL" (call2 "EQUAL" (variable "X") (variable "Y")) (call0 "FALSE")) ((codes "X", x) ∷ (codes "Y", y) ∷ []) (grown apart_by_first_list_clause apart_by_first_list h) (d2, (d1, tt)) ((equal_symbol h, ((equal_symbol h, ox), oy)), (false_symbol h))

-- (NOT (EQUAL (LISTP X) F)), (NOT (EQUAL (LISTP Y) T)), (EQUAL (EQUAL X Y) F)
abbrev apart_by_second_list_log : List LogLine
apart_by_second_list_log =
    Ruled (AxiomRow (codes "FALSE") 2 0)
    ∷ Ruled (Instance 2 ((codes "X", (call2 "EQUAL" (variable "X") (variable "Y"))) ∷ []))
    ∷ Ruled (Taut ((call1 "NOT" (call2 "EQUAL" (call2 "EQUAL" (variable "X") (variable "Y")) (call0 "FALSE"))) ∷ (call2 "EQUAL" (call2 "EQUAL" (variable "X") (variable "Y")) (call0 "FALSE")) ∷ []))
    ∷ Ruled (Replace 1 1 (1 ∷ 1 ∷ []) (call1 "LISTP" (variable "Y")) Backwards)
    ∷ Ruled (Replace 5 1 (1 ∷ 1 ∷ 1 ∷ []) (variable "X") Backwards)
    ∷ Ruled (Cut 3 6 (call2 "EQUAL" (variable "X") (variable "Y")))
    ∷ Ruled (Cut 7 4 (call2 "EQUAL" (call2 "EQUAL" (variable "X") (variable "Y")) (call0 "FALSE"))) ∷ []

pub apart_by_second_list : Derivable [] (clause apart_by_second_list_clause)
unfolding symbols_of number_of
apart_by_second_list = everywhere (truth_is_no_falsity_clause ∷ []) apart_by_second_list_log apart_by_second_list_clause refl (truth_is_no_falsity, tt) refl

pub apart_by_second_list_at : (h : History) (x y : Term) → IsTerm (symbols_of h) x → IsTerm (symbols_of h) y → Derivable h (clause ((call2 "EQUAL" (call1 "LISTP" x) (call0 "FALSE")) ∷ [])) → Derivable h (clause ((call2 "EQUAL" (call1 "LISTP" y) (call0 "TRUE")) ∷ [])) → Derivable h (clause ((call2 "EQUAL" (call2 "EQUAL" x y) (call0 "FALSE")) ∷ []))
apart_by_second_list_at h x y ox oy d1 d2 =
    by_law h ((call2 "EQUAL" (call1 "LISTP" (variable "X")) (call0 "FALSE")) ∷ (call2 "EQUAL" (call1 "LISTP" (variable "Y")) (call0 "TRUE")) ∷ []) (call2 "EQUAL" (call2 "EQUAL" (variable "X") (variable "Y")) (call0 "FALSE")) ((codes "X", x) ∷ (codes "Y", y) ∷ []) (grown apart_by_second_list_clause apart_by_second_list h) (d1, (d2, tt)) ((equal_symbol h, ((equal_symbol h, ox), oy)), (false_symbol h))

pub laws_of_list_tests_hold : AreDerivable laws_of_list_tests
laws_of_list_tests_hold h = (grown list_test_of_truth_clause list_test_of_truth h, (grown list_test_of_falsity_clause list_test_of_falsity h, (grown list_test_of_list_clause list_test_of_list h, (grown list_test_of_number_clause list_test_of_number h, (grown list_test_of_literal_atom_clause list_test_of_literal_atom h, (grown list_test_of_negative_clause list_test_of_negative h, (grown list_is_true_clause list_is_true h, (grown apart_by_first_list_clause apart_by_first_list h, (grown apart_by_second_list_clause apart_by_second_list h, tt)))))))))
