-- Laws of NUMBERP on values in the ground history, each by a log over earlier ones, and at terms of any history.
use Rattle.std.proofs.Common.{List, [], ◌∷◌, refl}
use Rattle.std.specs.Prelude.{codes}
use Rattle.nq_logic.specs.Terms.{Term, IsTerm}
use Rattle.nq_logic.specs.Words.{variable, call0, call1, call2}
use Rattle.nq_logic.specs.Histories.{History}
use Rattle.nq_logic.specs.Ground.{symbols_of}
use Rattle.nq_logic.specs.Numerals.{number_of}
use Rattle.nq_logic.specs.Formulas.{clause}
use Rattle.nq_logic.specs.Derivations.{Derivable}
use Rattle.nq_proof.specs.Rules.{Taut, AxiomRow, Cut, Instance, Replace, Forwards, Backwards}
use Rattle.nq_proof.specs.Logs.{LogLine, Ruled}
use Rattle.nq_proof.proofs.SoundLogs.{everywhere, grown}
use Rattle.nq_proof.proofs.ByLaw.{by_law}
use Rattle.nq_laws.specs.Laws.{AreDerivable}
use Rattle.nq_logic.proofs.Symbols.{equal_symbol, false_symbol, numberp_symbol, true_symbol}
use Rattle.nq_laws.specs.NumberTests.{number_test_of_truth_clause, number_test_of_falsity_clause, number_test_of_number_clause, number_test_of_list_clause, number_test_of_literal_atom_clause, number_test_of_negative_clause, number_is_true_clause, apart_by_first_number_clause, apart_by_second_number_clause, laws_of_number_tests}
use Rattle.nq_laws.specs.TruthValues.{truth_is_no_falsity_clause}
use Rattle.nq_laws.proofs.TruthValues.{truth_is_no_falsity}

-- (EQUAL (NUMBERP T) F)
abbrev number_test_of_truth_log : List LogLine
number_test_of_truth_log =
    Ruled (AxiomRow (codes "FALSE") 2 0)
    ∷ Ruled (AxiomRow (codes "ADD1") 11 0)
    ∷ Ruled (Instance 1 ((codes "X", (call1 "NUMBERP" (call0 "TRUE"))) ∷ []))
    ∷ Ruled (Cut 3 2 (call1 "NUMBERP" (call0 "TRUE"))) ∷ []

pub number_test_of_truth : Derivable [] (clause number_test_of_truth_clause)
unfolding symbols_of number_of
number_test_of_truth = everywhere [] number_test_of_truth_log number_test_of_truth_clause refl tt refl

pub number_test_of_truth_at : (h : History) → Derivable h (clause number_test_of_truth_clause)
number_test_of_truth_at h = grown number_test_of_truth_clause number_test_of_truth h

-- (EQUAL (NUMBERP F) F)
abbrev number_test_of_falsity_log : List LogLine
number_test_of_falsity_log =
    Ruled (AxiomRow (codes "FALSE") 2 0)
    ∷ Ruled (AxiomRow (codes "ADD1") 12 0)
    ∷ Ruled (Instance 1 ((codes "X", (call1 "NUMBERP" (call0 "FALSE"))) ∷ []))
    ∷ Ruled (Cut 3 2 (call1 "NUMBERP" (call0 "FALSE"))) ∷ []

pub number_test_of_falsity : Derivable [] (clause number_test_of_falsity_clause)
unfolding symbols_of number_of
number_test_of_falsity = everywhere [] number_test_of_falsity_log number_test_of_falsity_clause refl tt refl

pub number_test_of_falsity_at : (h : History) → Derivable h (clause number_test_of_falsity_clause)
number_test_of_falsity_at h = grown number_test_of_falsity_clause number_test_of_falsity h

-- (NOT (NUMBERP X)), (EQUAL (NUMBERP X) T)
abbrev number_test_of_number_log : List LogLine
number_test_of_number_log =
    Ruled (AxiomRow (codes "FALSE") 1 0)
    ∷ Ruled (Taut ((call1 "NUMBERP" (variable "X")) ∷ (call1 "NOT" (call1 "NUMBERP" (variable "X"))) ∷ []))
    ∷ Ruled (AxiomRow (codes "ADD1") 1 0)
    ∷ Ruled (Replace 2 1 [] (call0 "FALSE") Forwards)
    ∷ Ruled (Cut 4 1 (call0 "FALSE"))
    ∷ Ruled (Cut 2 5 (call1 "NUMBERP" (variable "X")))
    ∷ Ruled (Cut 3 6 (call2 "EQUAL" (call1 "NUMBERP" (variable "X")) (call0 "FALSE")))
    ∷ Ruled (Taut ((call1 "NOT" (call2 "EQUAL" (call1 "NUMBERP" (variable "X")) (call0 "TRUE"))) ∷ (call2 "EQUAL" (call1 "NUMBERP" (variable "X")) (call0 "TRUE")) ∷ []))
    ∷ Ruled (Cut 7 8 (call2 "EQUAL" (call1 "NUMBERP" (variable "X")) (call0 "TRUE"))) ∷ []

pub number_test_of_number : Derivable [] (clause number_test_of_number_clause)
unfolding symbols_of number_of
number_test_of_number = everywhere [] number_test_of_number_log number_test_of_number_clause refl tt refl

pub number_test_of_number_at : (h : History) (x : Term) → IsTerm (symbols_of h) x → Derivable h (clause ((call1 "NUMBERP" x) ∷ [])) → Derivable h (clause ((call2 "EQUAL" (call1 "NUMBERP" x) (call0 "TRUE")) ∷ []))
number_test_of_number_at h x ox d1 =
    by_law h ((call1 "NUMBERP" (variable "X")) ∷ []) (call2 "EQUAL" (call1 "NUMBERP" (variable "X")) (call0 "TRUE")) ((codes "X", x) ∷ []) (grown number_test_of_number_clause number_test_of_number h) (d1, tt) ((equal_symbol h, (numberp_symbol h, ox)), (true_symbol h))

-- (NOT (LISTP X)), (EQUAL (NUMBERP X) F)
abbrev number_test_of_list_log : List LogLine
number_test_of_list_log =
    Ruled (AxiomRow (codes "CONS") 13 1)
    ∷ Ruled (AxiomRow (codes "FALSE") 2 0)
    ∷ Ruled (Instance 2 ((codes "X", (call1 "NUMBERP" (variable "X"))) ∷ []))
    ∷ Ruled (Cut 3 1 (call1 "NUMBERP" (variable "X")))
    ∷ Ruled (Taut ((call1 "NOT" (call2 "EQUAL" (call1 "NUMBERP" (variable "X")) (call0 "FALSE"))) ∷ (call2 "EQUAL" (call1 "NUMBERP" (variable "X")) (call0 "FALSE")) ∷ []))
    ∷ Ruled (Cut 4 5 (call2 "EQUAL" (call1 "NUMBERP" (variable "X")) (call0 "FALSE"))) ∷ []

pub number_test_of_list : Derivable [] (clause number_test_of_list_clause)
unfolding symbols_of number_of
number_test_of_list = everywhere [] number_test_of_list_log number_test_of_list_clause refl tt refl

pub number_test_of_list_at : (h : History) (x : Term) → IsTerm (symbols_of h) x → Derivable h (clause ((call1 "LISTP" x) ∷ [])) → Derivable h (clause ((call2 "EQUAL" (call1 "NUMBERP" x) (call0 "FALSE")) ∷ []))
number_test_of_list_at h x ox d1 =
    by_law h ((call1 "LISTP" (variable "X")) ∷ []) (call2 "EQUAL" (call1 "NUMBERP" (variable "X")) (call0 "FALSE")) ((codes "X", x) ∷ []) (grown number_test_of_list_clause number_test_of_list h) (d1, tt) ((equal_symbol h, (numberp_symbol h, ox)), (false_symbol h))

-- (NOT (LITATOM X)), (EQUAL (NUMBERP X) F)
abbrev number_test_of_literal_atom_log : List LogLine
number_test_of_literal_atom_log =
    Ruled (AxiomRow (codes "FALSE") 2 0)
    ∷ Ruled (Instance 1 ((codes "X", (call1 "NUMBERP" (variable "X"))) ∷ []))
    ∷ Ruled (Taut ((call1 "NOT" (call2 "EQUAL" (call1 "NUMBERP" (variable "X")) (call0 "FALSE"))) ∷ (call2 "EQUAL" (call1 "NUMBERP" (variable "X")) (call0 "FALSE")) ∷ []))
    ∷ Ruled (AxiomRow (codes "PACK") 13 1)
    ∷ Ruled (Cut 2 4 (call1 "NUMBERP" (variable "X")))
    ∷ Ruled (Cut 5 3 (call2 "EQUAL" (call1 "NUMBERP" (variable "X")) (call0 "FALSE"))) ∷ []

pub number_test_of_literal_atom : Derivable [] (clause number_test_of_literal_atom_clause)
unfolding symbols_of number_of
number_test_of_literal_atom = everywhere [] number_test_of_literal_atom_log number_test_of_literal_atom_clause refl tt refl

pub number_test_of_literal_atom_at : (h : History) (x : Term) → IsTerm (symbols_of h) x → Derivable h (clause ((call1 "LITATOM" x) ∷ [])) → Derivable h (clause ((call2 "EQUAL" (call1 "NUMBERP" x) (call0 "FALSE")) ∷ []))
number_test_of_literal_atom_at h x ox d1 =
    by_law h ((call1 "LITATOM" (variable "X")) ∷ []) (call2 "EQUAL" (call1 "NUMBERP" (variable "X")) (call0 "FALSE")) ((codes "X", x) ∷ []) (grown number_test_of_literal_atom_clause number_test_of_literal_atom h) (d1, tt) ((equal_symbol h, (numberp_symbol h, ox)), (false_symbol h))

-- (NOT (NEGATIVEP X)), (EQUAL (NUMBERP X) F)
abbrev number_test_of_negative_log : List LogLine
number_test_of_negative_log =
    Ruled (AxiomRow (codes "FALSE") 2 0)
    ∷ Ruled (Instance 1 ((codes "X", (call1 "NUMBERP" (variable "X"))) ∷ []))
    ∷ Ruled (Taut ((call1 "NOT" (call2 "EQUAL" (call1 "NUMBERP" (variable "X")) (call0 "FALSE"))) ∷ (call2 "EQUAL" (call1 "NUMBERP" (variable "X")) (call0 "FALSE")) ∷ []))
    ∷ Ruled (AxiomRow (codes "MINUS") 13 1)
    ∷ Ruled (Cut 2 4 (call1 "NUMBERP" (variable "X")))
    ∷ Ruled (Cut 5 3 (call2 "EQUAL" (call1 "NUMBERP" (variable "X")) (call0 "FALSE"))) ∷ []

pub number_test_of_negative : Derivable [] (clause number_test_of_negative_clause)
unfolding symbols_of number_of
number_test_of_negative = everywhere [] number_test_of_negative_log number_test_of_negative_clause refl tt refl

pub number_test_of_negative_at : (h : History) (x : Term) → IsTerm (symbols_of h) x → Derivable h (clause ((call1 "NEGATIVEP" x) ∷ [])) → Derivable h (clause ((call2 "EQUAL" (call1 "NUMBERP" x) (call0 "FALSE")) ∷ []))
number_test_of_negative_at h x ox d1 =
    by_law h ((call1 "NEGATIVEP" (variable "X")) ∷ []) (call2 "EQUAL" (call1 "NUMBERP" (variable "X")) (call0 "FALSE")) ((codes "X", x) ∷ []) (grown number_test_of_negative_clause number_test_of_negative h) (d1, tt) ((equal_symbol h, (numberp_symbol h, ox)), (false_symbol h))

-- (NOT (NUMBERP X)), X
abbrev number_is_true_log : List LogLine
number_is_true_log =
    Ruled (Taut ((call1 "NUMBERP" (variable "X")) ∷ (call1 "NOT" (call1 "NUMBERP" (variable "X"))) ∷ []))
    ∷ Ruled (AxiomRow (codes "FALSE") 2 0)
    ∷ Ruled (AxiomRow (codes "ADD1") 12 0)
    ∷ Ruled (Replace 1 1 (1 ∷ []) (call0 "FALSE") Forwards)
    ∷ Ruled (Cut 4 3 (call1 "NUMBERP" (call0 "FALSE")))
    ∷ Ruled (Cut 2 5 (call2 "EQUAL" (variable "X") (call0 "FALSE")))
    ∷ Ruled (Taut ((call1 "NOT" (variable "X")) ∷ (variable "X") ∷ []))
    ∷ Ruled (Cut 6 7 (variable "X")) ∷ []

pub number_is_true : Derivable [] (clause number_is_true_clause)
unfolding symbols_of number_of
number_is_true = everywhere [] number_is_true_log number_is_true_clause refl tt refl

pub number_is_true_at : (h : History) (x : Term) → IsTerm (symbols_of h) x → Derivable h (clause ((call1 "NUMBERP" x) ∷ [])) → Derivable h (clause (x ∷ []))
number_is_true_at h x ox d1 =
    by_law h ((call1 "NUMBERP" (variable "X")) ∷ []) (variable "X") ((codes "X", x) ∷ []) (grown number_is_true_clause number_is_true h) (d1, tt) ox

-- (NOT (EQUAL (NUMBERP Y) F)), (NOT (EQUAL (NUMBERP X) T)), (EQUAL (EQUAL X Y) F)
abbrev apart_by_first_number_log : List LogLine
apart_by_first_number_log =
    Ruled (AxiomRow (codes "FALSE") 2 0)
    ∷ Ruled (Replace 1 1 (1 ∷ 1 ∷ []) (call1 "NUMBERP" (variable "Y")) Backwards)
    ∷ Ruled (Replace 3 2 (1 ∷ 1 ∷ 1 ∷ []) (variable "X") Backwards)
    ∷ Ruled (Instance 2 ((codes "X", (call2 "EQUAL" (variable "X") (variable "Y"))) ∷ []))
    ∷ Ruled (Cut 5 4 (call2 "EQUAL" (variable "X") (variable "Y")))
    ∷ Ruled (Taut ((call1 "NOT" (call2 "EQUAL" (call2 "EQUAL" (variable "X") (variable "Y")) (call0 "FALSE"))) ∷ (call2 "EQUAL" (call2 "EQUAL" (variable "X") (variable "Y")) (call0 "FALSE")) ∷ []))
    ∷ Ruled (Cut 6 7 (call2 "EQUAL" (call2 "EQUAL" (variable "X") (variable "Y")) (call0 "FALSE"))) ∷ []

pub apart_by_first_number : Derivable [] (clause apart_by_first_number_clause)
unfolding symbols_of number_of
apart_by_first_number = everywhere (truth_is_no_falsity_clause ∷ []) apart_by_first_number_log apart_by_first_number_clause refl (truth_is_no_falsity, tt) refl

pub apart_by_first_number_at : (h : History) (x y : Term) → IsTerm (symbols_of h) x → IsTerm (symbols_of h) y → Derivable h (clause ((call2 "EQUAL" (call1 "NUMBERP" x) (call0 "TRUE")) ∷ [])) → Derivable h (clause ((call2 "EQUAL" (call1 "NUMBERP" y) (call0 "FALSE")) ∷ [])) → Derivable h (clause ((call2 "EQUAL" (call2 "EQUAL" x y) (call0 "FALSE")) ∷ []))
apart_by_first_number_at h x y ox oy d1 d2 =
    by_law h ((call2 "EQUAL" (call1 "NUMBERP" (variable "Y")) (call0 "FALSE")) ∷ (call2 "EQUAL" (call1 "NUMBERP" (variable "X")) (call0 "TRUE")) ∷ []) (call2 "EQUAL" (call2 "EQUAL" (variable "X") (variable "Y")) (call0 "FALSE")) ((codes "X", x) ∷ (codes "Y", y) ∷ []) (grown apart_by_first_number_clause apart_by_first_number h) (d2, (d1, tt)) ((equal_symbol h, ((equal_symbol h, ox), oy)), (false_symbol h))

-- (NOT (EQUAL (NUMBERP X) F)), (NOT (EQUAL (NUMBERP Y) T)), (EQUAL (EQUAL X Y) F)
abbrev apart_by_second_number_log : List LogLine
apart_by_second_number_log =
    Ruled (AxiomRow (codes "FALSE") 2 0)
    ∷ Ruled (Replace 1 1 (1 ∷ 1 ∷ []) (call1 "NUMBERP" (variable "Y")) Backwards)
    ∷ Ruled (Instance 2 ((codes "X", (call2 "EQUAL" (variable "X") (variable "Y"))) ∷ []))
    ∷ Ruled (Taut ((call1 "NOT" (call2 "EQUAL" (call2 "EQUAL" (variable "X") (variable "Y")) (call0 "FALSE"))) ∷ (call2 "EQUAL" (call2 "EQUAL" (variable "X") (variable "Y")) (call0 "FALSE")) ∷ []))
    ∷ Ruled (Replace 3 1 (1 ∷ 1 ∷ 1 ∷ []) (variable "X") Backwards)
    ∷ Ruled (Cut 4 6 (call2 "EQUAL" (variable "X") (variable "Y")))
    ∷ Ruled (Cut 7 5 (call2 "EQUAL" (call2 "EQUAL" (variable "X") (variable "Y")) (call0 "FALSE"))) ∷ []

pub apart_by_second_number : Derivable [] (clause apart_by_second_number_clause)
unfolding symbols_of number_of
apart_by_second_number = everywhere (truth_is_no_falsity_clause ∷ []) apart_by_second_number_log apart_by_second_number_clause refl (truth_is_no_falsity, tt) refl

pub apart_by_second_number_at : (h : History) (x y : Term) → IsTerm (symbols_of h) x → IsTerm (symbols_of h) y → Derivable h (clause ((call2 "EQUAL" (call1 "NUMBERP" x) (call0 "FALSE")) ∷ [])) → Derivable h (clause ((call2 "EQUAL" (call1 "NUMBERP" y) (call0 "TRUE")) ∷ [])) → Derivable h (clause ((call2 "EQUAL" (call2 "EQUAL" x y) (call0 "FALSE")) ∷ []))
apart_by_second_number_at h x y ox oy d1 d2 =
    by_law h ((call2 "EQUAL" (call1 "NUMBERP" (variable "X")) (call0 "FALSE")) ∷ (call2 "EQUAL" (call1 "NUMBERP" (variable "Y")) (call0 "TRUE")) ∷ []) (call2 "EQUAL" (call2 "EQUAL" (variable "X") (variable "Y")) (call0 "FALSE")) ((codes "X", x) ∷ (codes "Y", y) ∷ []) (grown apart_by_second_number_clause apart_by_second_number h) (d1, (d2, tt)) ((equal_symbol h, ((equal_symbol h, ox), oy)), (false_symbol h))

pub laws_of_number_tests_hold : AreDerivable laws_of_number_tests
laws_of_number_tests_hold h = (grown number_test_of_truth_clause number_test_of_truth h, (grown number_test_of_falsity_clause number_test_of_falsity h, (grown number_test_of_number_clause number_test_of_number h, (grown number_test_of_list_clause number_test_of_list h, (grown number_test_of_literal_atom_clause number_test_of_literal_atom h, (grown number_test_of_negative_clause number_test_of_negative h, (grown number_is_true_clause number_is_true h, (grown apart_by_first_number_clause apart_by_first_number h, (grown apart_by_second_number_clause apart_by_second_number h, tt)))))))))
