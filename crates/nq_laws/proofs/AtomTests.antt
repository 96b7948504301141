-- Laws of LITATOM on values in the ground history, each by a log over earlier ones, and at terms of any history.
use Rattle.std.proofs.Common.{List, [], ◌∷◌, refl}
use Rattle.std.specs.Prelude.{codes}
use Rattle.nq_logic.specs.Terms.{Term, IsTerm}
use Rattle.nq_logic.specs.Words.{variable, call0, call1, call2}
use Rattle.nq_logic.specs.Histories.{History}
use Rattle.nq_logic.specs.Ground.{symbols_of}
use Rattle.nq_logic.specs.Numerals.{number_of}
use Rattle.nq_logic.specs.Formulas.{clause}
use Rattle.nq_logic.specs.Derivations.{Derivable}
use Rattle.nq_proof.specs.Rules.{Taut, AxiomRow, Cut, Instance, Replace, Forwards, Backwards}
use Rattle.nq_proof.specs.Logs.{LogLine, Ruled}
use Rattle.nq_proof.proofs.SoundLogs.{everywhere, grown}
use Rattle.nq_proof.proofs.ByLaw.{by_law}
use Rattle.nq_laws.specs.Laws.{AreDerivable}
use Rattle.nq_logic.proofs.Symbols.{equal_symbol, false_symbol, litatom_symbol, true_symbol}
use Rattle.nq_laws.specs.AtomTests.{literal_atom_test_of_truth_clause, literal_atom_test_of_falsity_clause, literal_atom_test_of_literal_atom_clause, literal_atom_test_of_number_clause, literal_atom_test_of_list_clause, literal_atom_test_of_negative_clause, literal_atom_is_true_clause, apart_by_first_literal_atom_clause, apart_by_second_literal_atom_clause, laws_of_atom_tests}
use Rattle.nq_laws.specs.TruthValues.{truth_is_no_falsity_clause}
use Rattle.nq_laws.proofs.TruthValues.{truth_is_no_falsity}

-- (EQUAL (LITATOM T) F)
abbrev literal_atom_test_of_truth_log : List LogLine
literal_atom_test_of_truth_log =
    Ruled (AxiomRow (codes "FALSE") 2 0)
    ∷ Ruled (AxiomRow (codes "PACK") 11 0)
    ∷ Ruled (Instance 1 ((codes "X", (call1 "LITATOM" (call0 "TRUE"))) ∷ []))
    ∷ Ruled (Cut 3 2 (call1 "LITATOM" (call0 "TRUE"))) ∷ []

pub literal_atom_test_of_truth : Derivable [] (clause literal_atom_test_of_truth_clause)
unfolding symbols_of number_of
literal_atom_test_of_truth = everywhere [] literal_atom_test_of_truth_log literal_atom_test_of_truth_clause refl tt refl

pub literal_atom_test_of_truth_at : (h : History) → Derivable h (clause literal_atom_test_of_truth_clause)
literal_atom_test_of_truth_at h = grown literal_atom_test_of_truth_clause literal_atom_test_of_truth h

-- (EQUAL (LITATOM F) F)
abbrev literal_atom_test_of_falsity_log : List LogLine
literal_atom_test_of_falsity_log =
    Ruled (AxiomRow (codes "FALSE") 2 0)
    ∷ Ruled (AxiomRow (codes "PACK") 12 0)
    ∷ Ruled (Instance 1 ((codes "X", (call1 "LITATOM" (call0 "FALSE"))) ∷ []))
    ∷ Ruled (Cut 3 2 (call1 "LITATOM" (call0 "FALSE"))) ∷ []

pub literal_atom_test_of_falsity : Derivable [] (clause literal_atom_test_of_falsity_clause)
unfolding symbols_of number_of
literal_atom_test_of_falsity = everywhere [] literal_atom_test_of_falsity_log literal_atom_test_of_falsity_clause refl tt refl

pub literal_atom_test_of_falsity_at : (h : History) → Derivable h (clause literal_atom_test_of_falsity_clause)
literal_atom_test_of_falsity_at h = grown literal_atom_test_of_falsity_clause literal_atom_test_of_falsity h

-- (NOT (LITATOM X)), (EQUAL (LITATOM X) T)
abbrev literal_atom_test_of_literal_atom_log : List LogLine
literal_atom_test_of_literal_atom_log =
    Ruled (AxiomRow (codes "FALSE") 1 0)
    ∷ Ruled (AxiomRow (codes "PACK") 1 0)
    ∷ Ruled (Taut ((call1 "LITATOM" (variable "X")) ∷ (call1 "NOT" (call1 "LITATOM" (variable "X"))) ∷ []))
    ∷ Ruled (Replace 3 1 [] (call0 "FALSE") Forwards)
    ∷ Ruled (Cut 4 1 (call0 "FALSE"))
    ∷ Ruled (Cut 3 5 (call1 "LITATOM" (variable "X")))
    ∷ Ruled (Cut 2 6 (call2 "EQUAL" (call1 "LITATOM" (variable "X")) (call0 "FALSE")))
    ∷ Ruled (Taut ((call1 "NOT" (call2 "EQUAL" (call1 "LITATOM" (variable "X")) (call0 "TRUE"))) ∷ (call2 "EQUAL" (call1 "LITATOM" (variable "X")) (call0 "TRUE")) ∷ []))
    ∷ Ruled (Cut 7 8 (call2 "EQUAL" (call1 "LITATOM" (variable "X")) (call0 "TRUE"))) ∷ []

pub literal_atom_test_of_literal_atom : Derivable [] (clause literal_atom_test_of_literal_atom_clause)
unfolding symbols_of number_of
literal_atom_test_of_literal_atom = everywhere [] literal_atom_test_of_literal_atom_log literal_atom_test_of_literal_atom_clause refl tt refl

pub literal_atom_test_of_literal_atom_at : (h : History) (x : Term) → IsTerm (symbols_of h) x → Derivable h (clause ((call1 "LITATOM" x) ∷ [])) → Derivable h (clause ((call2 "EQUAL" (call1 "LITATOM" x) (call0 "TRUE")) ∷ []))
literal_atom_test_of_literal_atom_at h x ox d1 =
    by_law h ((call1 "LITATOM" (variable "X")) ∷ []) (call2 "EQUAL" (call1 "LITATOM" (variable "X")) (call0 "TRUE")) ((codes "X", x) ∷ []) (grown literal_atom_test_of_literal_atom_clause literal_atom_test_of_literal_atom h) (d1, tt) ((equal_symbol h, (litatom_symbol h, ox)), (true_symbol h))

-- (NOT (NUMBERP X)), (EQUAL (LITATOM X) F)
abbrev literal_atom_test_of_number_log : List LogLine
literal_atom_test_of_number_log =
    Ruled (AxiomRow (codes "FALSE") 2 0)
    ∷ Ruled (AxiomRow (codes "PACK") 13 1)
    ∷ Ruled (Instance 1 ((codes "X", (call1 "LITATOM" (variable "X"))) ∷ []))
    ∷ Ruled (Cut 3 2 (call1 "LITATOM" (variable "X")))
    ∷ Ruled (Taut ((call1 "NOT" (call2 "EQUAL" (call1 "LITATOM" (variable "X")) (call0 "FALSE"))) ∷ (call2 "EQUAL" (call1 "LITATOM" (variable "X")) (call0 "FALSE")) ∷ []))
    ∷ Ruled (Cut 4 5 (call2 "EQUAL" (call1 "LITATOM" (variable "X")) (call0 "FALSE"))) ∷ []

pub literal_atom_test_of_number : Derivable [] (clause literal_atom_test_of_number_clause)
unfolding symbols_of number_of
literal_atom_test_of_number = everywhere [] literal_atom_test_of_number_log literal_atom_test_of_number_clause refl tt refl

pub literal_atom_test_of_number_at : (h : History) (x : Term) → IsTerm (symbols_of h) x → Derivable h (clause ((call1 "NUMBERP" x) ∷ [])) → Derivable h (clause ((call2 "EQUAL" (call1 "LITATOM" x) (call0 "FALSE")) ∷ []))
literal_atom_test_of_number_at h x ox d1 =
    by_law h ((call1 "NUMBERP" (variable "X")) ∷ []) (call2 "EQUAL" (call1 "LITATOM" (variable "X")) (call0 "FALSE")) ((codes "X", x) ∷ []) (grown literal_atom_test_of_number_clause literal_atom_test_of_number h) (d1, tt) ((equal_symbol h, (litatom_symbol h, ox)), (false_symbol h))

-- (NOT (LISTP X)), (EQUAL (LITATOM X) F)
abbrev literal_atom_test_of_list_log : List LogLine
literal_atom_test_of_list_log =
    Ruled (AxiomRow (codes "FALSE") 2 0)
    ∷ Ruled (AxiomRow (codes "PACK") 13 2)
    ∷ Ruled (Instance 1 ((codes "X", (call1 "LITATOM" (variable "X"))) ∷ []))
    ∷ Ruled (Taut ((call1 "NOT" (call2 "EQUAL" (call1 "LITATOM" (variable "X")) (call0 "FALSE"))) ∷ (call2 "EQUAL" (call1 "LITATOM" (variable "X")) (call0 "FALSE")) ∷ []))
    ∷ Ruled (Cut 3 2 (call1 "LITATOM" (variable "X")))
    ∷ Ruled (Cut 5 4 (call2 "EQUAL" (call1 "LITATOM" (variable "X")) (call0 "FALSE"))) ∷ []

pub literal_atom_test_of_list : Derivable [] (clause literal_atom_test_of_list_clause)
unfolding symbols_of number_of
literal_atom_test_of_list = everywhere [] literal_atom_test_of_list_log literal_atom_test_of_list_clause refl tt refl

pub literal_atom_test_of_list_at : (h : History) (x : Term) → IsTerm (symbols_of h) x → Derivable h (clause ((call1 "LISTP" x) ∷ [])) → Derivable h (clause ((call2 "EQUAL" (call1 "LITATOM" x) (call0 "FALSE")) ∷ []))
literal_atom_test_of_list_at h x ox d1 =
    by_law h ((call1 "LISTP" (variable "X")) ∷ []) (call2 "EQUAL" (call1 "LITATOM" (variable "X")) (call0 "FALSE")) ((codes "X", x) ∷ []) (grown literal_atom_test_of_list_clause literal_atom_test_of_list h) (d1, tt) ((equal_symbol h, (litatom_symbol h, ox)), (false_symbol h))

-- (NOT (NEGATIVEP X)), (EQUAL (LITATOM X) F)
abbrev literal_atom_test_of_negative_log : List LogLine
literal_atom_test_of_negative_log =
    Ruled (AxiomRow (codes "FALSE") 2 0)
    ∷ Ruled (Instance 1 ((codes "X", (call1 "LITATOM" (variable "X"))) ∷ []))
    ∷ Ruled (Taut ((call1 "NOT" (call2 "EQUAL" (call1 "LITATOM" (variable "X")) (call0 "FALSE"))) ∷ (call2 "EQUAL" (call1 "LITATOM" (variable "X")) (call0 "FALSE")) ∷ []))
    ∷ Ruled (AxiomRow (codes "MINUS") 13 3)
    ∷ Ruled (Cut 2 4 (call1 "LITATOM" (variable "X")))
    ∷ Ruled (Cut 5 3 (call2 "EQUAL" (call1 "LITATOM" (variable "X")) (call0 "FALSE"))) ∷ []

pub literal_atom_test_of_negative : Derivable [] (clause literal_atom_test_of_negative_clause)
unfolding symbols_of number_of
literal_atom_test_of_negative = everywhere [] literal_atom_test_of_negative_log literal_atom_test_of_negative_clause refl tt refl

pub literal_atom_test_of_negative_at : (h : History) (x : Term) → IsTerm (symbols_of h) x → Derivable h (clause ((call1 "NEGATIVEP" x) ∷ [])) → Derivable h (clause ((call2 "EQUAL" (call1 "LITATOM" x) (call0 "FALSE")) ∷ []))
literal_atom_test_of_negative_at h x ox d1 =
    by_law h ((call1 "NEGATIVEP" (variable "X")) ∷ []) (call2 "EQUAL" (call1 "LITATOM" (variable "X")) (call0 "FALSE")) ((codes "X", x) ∷ []) (grown literal_atom_test_of_negative_clause literal_atom_test_of_negative h) (d1, tt) ((equal_symbol h, (litatom_symbol h, ox)), (false_symbol h))

-- (NOT (LITATOM X)), X
abbrev literal_atom_is_true_log : List LogLine
literal_atom_is_true_log =
    Ruled (AxiomRow (codes "FALSE") 2 0)
    ∷ Ruled (Taut ((call1 "NOT" (variable "X")) ∷ (variable "X") ∷ []))
    ∷ Ruled (AxiomRow (codes "PACK") 12 0)
    ∷ Ruled (Taut ((call1 "LITATOM" (variable "X")) ∷ (call1 "NOT" (call1 "LITATOM" (variable "X"))) ∷ []))
    ∷ Ruled (Replace 4 1 (1 ∷ []) (call0 "FALSE") Forwards)
    ∷ Ruled (Cut 5 3 (call1 "LITATOM" (call0 "FALSE")))
    ∷ Ruled (Cut 1 6 (call2 "EQUAL" (variable "X") (call0 "FALSE")))
    ∷ Ruled (Cut 7 2 (variable "X")) ∷ []

pub literal_atom_is_true : Derivable [] (clause literal_atom_is_true_clause)
unfolding symbols_of number_of
literal_atom_is_true = everywhere [] literal_atom_is_true_log literal_atom_is_true_clause refl tt refl

pub literal_atom_is_true_at : (h : History) (x : Term) → IsTerm (symbols_of h) x → Derivable h (clause ((call1 "LITATOM" x) ∷ [])) → Derivable h (clause (x ∷ []))
literal_atom_is_true_at h x ox d1 =
    by_law h ((call1 "LITATOM" (variable "X")) ∷ []) (variable "X") ((codes "X", x) ∷ []) (grown literal_atom_is_true_clause literal_atom_is_true h) (d1, tt) ox

-- (NOT (EQUAL (LITATOM Y) F)), (NOT (EQUAL (LITATOM X) T)), (EQUAL (EQUAL X Y) F)
abbrev apart_by_first_literal_atom_log : List LogLine
apart_by_first_literal_atom_log =
    Ruled (AxiomRow (codes "FALSE") 2 0)
    ∷ Ruled (Instance 2 ((codes "X", (call2 "EQUAL" (variable "X") (variable "Y"))) ∷ []))
    ∷ Ruled (Taut ((call1 "NOT" (call2 "EQUAL" (call2 "EQUAL" (variable "X") (variable "Y")) (call0 "FALSE"))) ∷ (call2 "EQUAL" (call2 "EQUAL" (variable "X") (variable "Y")) (call0 "FALSE")) ∷ []))
    ∷ Ruled (Replace 1 1 (1 ∷ 1 ∷ []) (call1 "LITATOM" (variable "Y")) Backwards)
    ∷ Ruled (Replace 5 2 (1 ∷ 1 ∷ 1 ∷ []) (variable "X") Backwards)
    ∷ Ruled (Cut 3 6 (call2 "EQUAL" (variable "X") (variable "Y")))
    ∷ Ruled (Cut 7 4 (call2 "EQUAL" (call2 "EQUAL" (variable "X") (variable "Y")) (call0 "FALSE"))) ∷ []

pub apart_by_first_literal_atom : Derivable [] (clause apart_by_first_literal_atom_clause)
unfolding symbols_of number_of
apart_by_first_literal_atom = everywhere (truth_is_no_falsity_clause ∷ []) apart_by_first_literal_atom_log apart_by_first_literal_atom_clause refl (truth_is_no_falsity, tt) refl

pub apart_by_first_literal_atom_at : (h : History) (x y : Term) → IsTerm (symbols_of h) x → IsTerm (symbols_of h) y → Derivable h (clause ((call2 "EQUAL" (call1 "LITATOM" x) (call0 "TRUE")) ∷ [])) → Derivable h (clause ((call2 "EQUAL" (call1 "LITATOM" y) (call0 "FALSE")) ∷ [])) → Derivable h (clause ((call2 "EQUAL" (call2 "EQUAL" x y) (call0 "FALSE")) ∷ []))
apart_by_first_literal_atom_at h x y ox oy d1 d2 =
    by_law h ((call2 "EQUAL" (call1 "LITATOM" (variable "Y")) (call0 "FALSE")) ∷ (call2 "EQUAL" (call1 "LITATOM" (variable "X")) (call0 "TRUE")) ∷ []) (call2 "EQUAL" (call2 "EQUAL" (variable "X") (variable "Y")) (call0 "FALSE")) ((codes "X", x) ∷ (codes "Y", y) ∷ []) (grown apart_by_first_literal_atom_clause apart_by_first_literal_atom h) (d2, (d1, tt)) ((equal_symbol h, ((equal_symbol h, ox), oy)), (false_symbol h))

-- (NOT (EQUAL (LITATOM X) F)), (NOT (EQUAL (LITATOM Y) T)), (EQUAL (EQUAL X Y) F)
abbrev apart_by_second_literal_atom_log : List LogLine
apart_by_second_literal_atom_log =
    Ruled (AxiomRow (codes "FALSE") 2 0)
    ∷ Ruled (Instance 2 ((codes "X", (call2 "EQUAL" (variable "X") (variable "Y"))) ∷ []))
    ∷ Ruled (Taut ((call1 "NOT" (call2 "EQUAL" (call2 "EQUAL" (variable "X") (variable "Y")) (call0 "FALSE"))) ∷ (call2 "EQUAL" (call2 "EQUAL" (variable "X") (variable "Y")) (call0 "FALSE")) ∷ []))
    ∷ Ruled (Replace 1 1 (1 ∷ 1 ∷ []) (call1 "LITATOM" (variable "Y")) Backwards)
    ∷ Ruled (Replace 5 1 (1 ∷ 1 ∷ 1 ∷ []) (variable "X") Backwards)
    ∷ Ruled (Cut 3 6 (call2 "EQUAL" (variable "X") (variable "Y")))
    ∷ Ruled (Cut 7 4 (call2 "EQUAL" (call2 "EQUAL" (variable "X") (variable "Y")) (call0 "FALSE"))) ∷ []

pub apart_by_second_literal_atom : Derivable [] (clause apart_by_second_literal_atom_clause)
unfolding symbols_of number_of
apart_by_second_literal_atom = everywhere (truth_is_no_falsity_clause ∷ []) apart_by_second_literal_atom_log apart_by_second_literal_atom_clause refl (truth_is_no_falsity, tt) refl

pub apart_by_second_literal_atom_at : (h : History) (x y : Term) → IsTerm (symbols_of h) x → IsTerm (symbols_of h) y → Derivable h (clause ((call2 "EQUAL" (call1 "LITATOM" x) (call0 "FALSE")) ∷ [])) → Derivable h (clause ((call2 "EQUAL" (call1 "LITATOM" y) (call0 "TRUE")) ∷ [])) → Derivable h (clause ((call2 "EQUAL" (call2 "EQUAL" x y) (call0 "FALSE")) ∷ []))
apart_by_second_literal_atom_at h x y ox oy d1 d2 =
    by_law h ((call2 "EQUAL" (call1 "LITATOM" (variable "X")) (call0 "FALSE")) ∷ (call2 "EQUAL" (call1 "LITATOM" (variable "Y")) (call0 "TRUE")) ∷ []) (call2 "EQUAL" (call2 "EQUAL" (variable "X") (variable "Y")) (call0 "FALSE")) ((codes "X", x) ∷ (codes "Y", y) ∷ []) (grown apart_by_second_literal_atom_clause apart_by_second_literal_atom h) (d1, (d2, tt)) ((equal_symbol h, ((equal_symbol h, ox), oy)), (false_symbol h))

pub laws_of_atom_tests_hold : AreDerivable laws_of_atom_tests
laws_of_atom_tests_hold h = (grown literal_atom_test_of_truth_clause literal_atom_test_of_truth h, (grown literal_atom_test_of_falsity_clause literal_atom_test_of_falsity h, (grown literal_atom_test_of_literal_atom_clause literal_atom_test_of_literal_atom h, (grown literal_atom_test_of_number_clause literal_atom_test_of_number h, (grown literal_atom_test_of_list_clause literal_atom_test_of_list h, (grown literal_atom_test_of_negative_clause literal_atom_test_of_negative h, (grown literal_atom_is_true_clause literal_atom_is_true h, (grown apart_by_first_literal_atom_clause apart_by_first_literal_atom h, (grown apart_by_second_literal_atom_clause apart_by_second_literal_atom h, tt)))))))))
