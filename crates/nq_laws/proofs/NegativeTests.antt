-- Laws of NEGATIVEP on values in the ground history, each by a log over earlier ones, and at terms of any history.
use Rattle.std.proofs.Common.{List, [], ◌∷◌, refl}
use Rattle.std.specs.Prelude.{codes}
use Rattle.nq_logic.specs.Terms.{Term, IsTerm}
use Rattle.nq_logic.specs.Words.{variable, call0, call1, call2}
use Rattle.nq_logic.specs.Histories.{History}
use Rattle.nq_logic.specs.Ground.{symbols_of}
use Rattle.nq_logic.specs.Numerals.{number_of}
use Rattle.nq_logic.specs.Formulas.{clause}
use Rattle.nq_logic.specs.Derivations.{Derivable}
use Rattle.nq_proof.specs.Rules.{Taut, AxiomRow, Cut, Instance, Replace, Forwards, Backwards}
use Rattle.nq_proof.specs.Logs.{LogLine, Ruled}
use Rattle.nq_proof.proofs.SoundLogs.{everywhere, grown}
use Rattle.nq_proof.proofs.ByLaw.{by_law}
use Rattle.nq_laws.specs.Laws.{AreDerivable}
use Rattle.nq_logic.proofs.Symbols.{cons_symbol, equal_symbol, false_symbol, listp_symbol, litatom_symbol, minus_symbol, negativep_symbol, pack_symbol, true_symbol}
use Rattle.nq_laws.specs.NegativeTests.{negative_test_of_truth_clause, negative_test_of_falsity_clause, negative_test_of_negative_clause, negative_test_of_number_clause, negative_test_of_list_clause, negative_test_of_literal_atom_clause, negative_is_true_clause, apart_by_first_negative_clause, apart_by_second_negative_clause, pair_is_list_clause, atom_is_literal_atom_clause, negative_is_negative_clause, laws_of_negative_tests}
use Rattle.nq_laws.specs.TruthValues.{truth_is_no_falsity_clause}
use Rattle.nq_laws.proofs.TruthValues.{truth_is_no_falsity}

-- (EQUAL (NEGATIVEP T) F)
abbrev negative_test_of_truth_log : List LogLine
negative_test_of_truth_log =
    Ruled (AxiomRow (codes "FALSE") 2 0)
    ∷ Ruled (AxiomRow (codes "MINUS") 11 0)
    ∷ Ruled (Instance 1 ((codes "X", (call1 "NEGATIVEP" (call0 "TRUE"))) ∷ []))
    ∷ Ruled (Cut 3 2 (call1 "NEGATIVEP" (call0 "TRUE"))) ∷ []

pub negative_test_of_truth : Derivable [] (clause negative_test_of_truth_clause)
unfolding symbols_of number_of
negative_test_of_truth = everywhere [] negative_test_of_truth_log negative_test_of_truth_clause refl tt refl

pub negative_test_of_truth_at : (h : History) → Derivable h (clause negative_test_of_truth_clause)
negative_test_of_truth_at h = grown negative_test_of_truth_clause negative_test_of_truth h

-- (EQUAL (NEGATIVEP F) F)
abbrev negative_test_of_falsity_log : List LogLine
negative_test_of_falsity_log =
    Ruled (AxiomRow (codes "FALSE") 2 0)
    ∷ Ruled (AxiomRow (codes "MINUS") 12 0)
    ∷ Ruled (Instance 1 ((codes "X", (call1 "NEGATIVEP" (call0 "FALSE"))) ∷ []))
    ∷ Ruled (Cut 3 2 (call1 "NEGATIVEP" (call0 "FALSE"))) ∷ []

pub negative_test_of_falsity : Derivable [] (clause negative_test_of_falsity_clause)
unfolding symbols_of number_of
negative_test_of_falsity = everywhere [] negative_test_of_falsity_log negative_test_of_falsity_clause refl tt refl

pub negative_test_of_falsity_at : (h : History) → Derivable h (clause negative_test_of_falsity_clause)
negative_test_of_falsity_at h = grown negative_test_of_falsity_clause negative_test_of_falsity h

-- (NOT (NEGATIVEP X)), (EQUAL (NEGATIVEP X) T)
abbrev negative_test_of_negative_log : List LogLine
negative_test_of_negative_log =
    Ruled (AxiomRow (codes "FALSE") 1 0)
    ∷ Ruled (AxiomRow (codes "MINUS") 1 0)
    ∷ Ruled (Taut ((call1 "NEGATIVEP" (variable "X")) ∷ (call1 "NOT" (call1 "NEGATIVEP" (variable "X"))) ∷ []))
    ∷ Ruled (Replace 3 1 [] (call0 "FALSE") Forwards)
    ∷ Ruled (Cut 4 1 (call0 "FALSE"))
    ∷ Ruled (Cut 3 5 (call1 "NEGATIVEP" (variable "X")))
    ∷ Ruled (Cut 2 6 (call2 "EQUAL" (call1 "NEGATIVEP" (variable "X")) (call0 "FALSE")))
    ∷ Ruled (Taut ((call1 "NOT" (call2 "EQUAL" (call1 "NEGATIVEP" (variable "X")) (call0 "TRUE"))) ∷ (call2 "EQUAL" (call1 "NEGATIVEP" (variable "X")) (call0 "TRUE")) ∷ []))
    ∷ Ruled (Cut 7 8 (call2 "EQUAL" (call1 "NEGATIVEP" (variable "X")) (call0 "TRUE"))) ∷ []

pub negative_test_of_negative : Derivable [] (clause negative_test_of_negative_clause)
unfolding symbols_of number_of
negative_test_of_negative = everywhere [] negative_test_of_negative_log negative_test_of_negative_clause refl tt refl

pub negative_test_of_negative_at : (h : History) (x : Term) → IsTerm (symbols_of h) x → Derivable h (clause ((call1 "NEGATIVEP" x) ∷ [])) → Derivable h (clause ((call2 "EQUAL" (call1 "NEGATIVEP" x) (call0 "TRUE")) ∷ []))
negative_test_of_negative_at h x ox d1 =
    by_law h ((call1 "NEGATIVEP" (variable "X")) ∷ []) (call2 "EQUAL" (call1 "NEGATIVEP" (variable "X")) (call0 "TRUE")) ((codes "X", x) ∷ []) (grown negative_test_of_negative_clause negative_test_of_negative h) (d1, tt) ((equal_symbol h, (negativep_symbol h, ox)), (true_symbol h))

-- (NOT (NUMBERP X)), (EQUAL (NEGATIVEP X) F)
abbrev negative_test_of_number_log : List LogLine
negative_test_of_number_log =
    Ruled (AxiomRow (codes "FALSE") 2 0)
    ∷ Ruled (AxiomRow (codes "MINUS") 13 1)
    ∷ Ruled (Instance 1 ((codes "X", (call1 "NEGATIVEP" (variable "X"))) ∷ []))
    ∷ Ruled (Cut 3 2 (call1 "NEGATIVEP" (variable "X")))
    ∷ Ruled (Taut ((call1 "NOT" (call2 "EQUAL" (call1 "NEGATIVEP" (variable "X")) (call0 "FALSE"))) ∷ (call2 "EQUAL" (call1 "NEGATIVEP" (variable "X")) (call0 "FALSE")) ∷ []))
    ∷ Ruled (Cut 4 5 (call2 "EQUAL" (call1 "NEGATIVEP" (variable "X")) (call0 "FALSE"))) ∷ []

pub negative_test_of_number : Derivable [] (clause negative_test_of_number_clause)
unfolding symbols_of number_of
negative_test_of_number = everywhere [] negative_test_of_number_log negative_test_of_number_clause refl tt refl

pub negative_test_of_number_at : (h : History) (x : Term) → IsTerm (symbols_of h) x → Derivable h (clause ((call1 "NUMBERP" x) ∷ [])) → Derivable h (clause ((call2 "EQUAL" (call1 "NEGATIVEP" x) (call0 "FALSE")) ∷ []))
negative_test_of_number_at h x ox d1 =
    by_law h ((call1 "NUMBERP" (variable "X")) ∷ []) (call2 "EQUAL" (call1 "NEGATIVEP" (variable "X")) (call0 "FALSE")) ((codes "X", x) ∷ []) (grown negative_test_of_number_clause negative_test_of_number h) (d1, tt) ((equal_symbol h, (negativep_symbol h, ox)), (false_symbol h))

-- (NOT (LISTP X)), (EQUAL (NEGATIVEP X) F)
abbrev negative_test_of_list_log : List LogLine
negative_test_of_list_log =
    Ruled (AxiomRow (codes "FALSE") 2 0)
    ∷ Ruled (AxiomRow (codes "MINUS") 13 2)
    ∷ Ruled (Instance 1 ((codes "X", (call1 "NEGATIVEP" (variable "X"))) ∷ []))
    ∷ Ruled (Taut ((call1 "NOT" (call2 "EQUAL" (call1 "NEGATIVEP" (variable "X")) (call0 "FALSE"))) ∷ (call2 "EQUAL" (call1 "NEGATIVEP" (variable "X")) (call0 "FALSE")) ∷ []))
    ∷ Ruled (Cut 3 2 (call1 "NEGATIVEP" (variable "X")))
    ∷ Ruled (Cut 5 4 (call2 "EQUAL" (call1 "NEGATIVEP" (variable "X")) (call0 "FALSE"))) ∷ []

pub negative_test_of_list : Derivable [] (clause negative_test_of_list_clause)
unfolding symbols_of number_of
negative_test_of_list = everywhere [] negative_test_of_list_log negative_test_of_list_clause refl tt refl

pub negative_test_of_list_at : (h : History) (x : Term) → IsTerm (symbols_of h) x → Derivable h (clause ((call1 "LISTP" x) ∷ [])) → Derivable h (clause ((call2 "EQUAL" (call1 "NEGATIVEP" x) (call0 "FALSE")) ∷ []))
negative_test_of_list_at h x ox d1 =
    by_law h ((call1 "LISTP" (variable "X")) ∷ []) (call2 "EQUAL" (call1 "NEGATIVEP" (variable "X")) (call0 "FALSE")) ((codes "X", x) ∷ []) (grown negative_test_of_list_clause negative_test_of_list h) (d1, tt) ((equal_symbol h, (negativep_symbol h, ox)), (false_symbol h))

-- (NOT (LITATOM X)), (EQUAL (NEGATIVEP X) F)
abbrev negative_test_of_literal_atom_log : List LogLine
negative_test_of_literal_atom_log =
    Ruled (AxiomRow (codes "FALSE") 2 0)
    ∷ Ruled (AxiomRow (codes "MINUS") 13 3)
    ∷ Ruled (Instance 1 ((codes "X", (call1 "NEGATIVEP" (variable "X"))) ∷ []))
    ∷ Ruled (Taut ((call1 "NOT" (call2 "EQUAL" (call1 "NEGATIVEP" (variable "X")) (call0 "FALSE"))) ∷ (call2 "EQUAL" (call1 "NEGATIVEP" (variable "X")) (call0 "FALSE")) ∷ []))
    ∷ Ruled (Cut 3 2 (call1 "NEGATIVEP" (variable "X")))
    ∷ Ruled (Cut 5 4 (call2 "EQUAL" (call1 "NEGATIVEP" (variable "X")) (call0 "FALSE"))) ∷ []

pub negative_test_of_literal_atom : Derivable [] (clause negative_test_of_literal_atom_clause)
unfolding symbols_of number_of
negative_test_of_literal_atom = everywhere [] negative_test_of_literal_atom_log negative_test_of_literal_atom_clause refl tt refl

pub negative_test_of_literal_atom_at : (h : History) (x : Term) → IsTerm (symbols_of h) x → Derivable h (clause ((call1 "LITATOM" x) ∷ [])) → Derivable h (clause ((call2 "EQUAL" (call1 "NEGATIVEP" x) (call0 "FALSE")) ∷ []))
negative_test_of_literal_atom_at h x ox d1 =
    by_law h ((call1 "LITATOM" (variable "X")) ∷ []) (call2 "EQUAL" (call1 "NEGATIVEP" (variable "X")) (call0 "FALSE")) ((codes "X", x) ∷ []) (grown negative_test_of_literal_atom_clause negative_test_of_literal_atom h) (d1, tt) ((equal_symbol h, (negativep_symbol h, ox)), (false_symbol h))

-- (NOT (NEGATIVEP X)), X
abbrev negative_is_true_log : List LogLine
negative_is_true_log =
    Ruled (AxiomRow (codes "FALSE") 2 0)
    ∷ Ruled (Taut ((call1 "NOT" (variable "X")) ∷ (variable "X") ∷ []))
    ∷ Ruled (AxiomRow (codes "MINUS") 12 0)
    ∷ Ruled (Taut ((call1 "NEGATIVEP" (variable "X")) ∷ (call1 "NOT" (call1 "NEGATIVEP" (variable "X"))) ∷ []))
    ∷ Ruled (Replace 4 1 (1 ∷ []) (call0 "FALSE") Forwards)
    ∷ Ruled (Cut 5 3 (call1 "NEGATIVEP" (call0 "FALSE")))
    ∷ Ruled (Cut 1 6 (call2 "EQUAL" (variable "X") (call0 "FALSE")))
    ∷ Ruled (Cut 7 2 (variable "X")) ∷ []

pub negative_is_true : Derivable [] (clause negative_is_true_clause)
unfolding symbols_of number_of
negative_is_true = everywhere [] negative_is_true_log negative_is_true_clause refl tt refl

pub negative_is_true_at : (h : History) (x : Term) → IsTerm (symbols_of h) x → Derivable h (clause ((call1 "NEGATIVEP" x) ∷ [])) → Derivable h (clause (x ∷ []))
negative_is_true_at h x ox d1 =
    by_law h ((call1 "NEGATIVEP" (variable "X")) ∷ []) (variable "X") ((codes "X", x) ∷ []) (grown negative_is_true_clause negative_is_true h) (d1, tt) ox

-- (NOT (EQUAL (NEGATIVEP Y) F)), (NOT (EQUAL (NEGATIVEP X) T)), (EQUAL (EQUAL X Y) F)
abbrev apart_by_first_negative_log : List LogLine
apart_by_first_negative_log =
    Ruled (AxiomRow (codes "FALSE") 2 0)
    ∷ Ruled (Instance 2 ((codes "X", (call2 "EQUAL" (variable "X") (variable "Y"))) ∷ []))
    ∷ Ruled (Taut ((call1 "NOT" (call2 "EQUAL" (call2 "EQUAL" (variable "X") (variable "Y")) (call0 "FALSE"))) ∷ (call2 "EQUAL" (call2 "EQUAL" (variable "X") (variable "Y")) (call0 "FALSE")) ∷ []))
    ∷ Ruled (Replace 1 1 (1 ∷ 1 ∷ []) (call1 "NEGATIVEP" (variable "Y")) Backwards)
    ∷ Ruled (Replace 5 2 (1 ∷ 1 ∷ 1 ∷ []) (variable "X") Backwards)
    ∷ Ruled (Cut 3 6 (call2 "EQUAL" (variable "X") (variable "Y")))
    ∷ Ruled (Cut 7 4 (call2 "EQUAL" (call2 "EQUAL" (variable "X") (variable "Y")) (call0 "FALSE"))) ∷ []

pub apart_by_first_negative : Derivable [] (clause apart_by_first_negative_clause)
unfolding symbols_of number_of
apart_by_first_negative = everywhere (truth_is_no_falsity_clause ∷ []) apart_by_first_negative_log apart_by_first_negative_clause refl (truth_is_no_falsity, tt) refl

pub apart_by_first_negative_at : (h : History) (x y : Term) → IsTerm (symbols_of h) x → IsTerm (symbols_of h) y → Derivable h (clause ((call2 "EQUAL" (call1 "NEGATIVEP" x) (call0 "TRUE")) ∷ [])) → Derivable h (clause ((call2 "EQUAL" (call1 "NEGATIVEP" y) (call0 "FALSE")) ∷ [])) → Derivable h (clause ((call2 "EQUAL" (call2 "EQUAL" x y) (call0 "FALSE")) ∷ []))
apart_by_first_negative_at h x y ox oy d1 d2 =
    by_law h ((call2 "EQUAL" (call1 "NEGATIVEP" (variable "Y")) (call0 "FALSE")) ∷ (call2 "EQUAL" (call1 "NEGATIVEP" (variable "X")) (call0 "TRUE")) ∷ []) (call2 "EQUAL" (call2 "EQUAL" (variable "X") (variable "Y")) (call0 "FALSE")) ((codes "X", x) ∷ (codes "Y", y) ∷ []) (grown apart_by_first_negative_clause apart_by_first_negative h) (d2, (d1, tt)) ((equal_symbol h, ((equal_symbol h, ox), oy)), (false_symbol h))

-- (NOT (EQUAL (NEGATIVEP X) F)), (NOT (EQUAL (NEGATIVEP Y) T)), (EQUAL (EQUAL X Y) F)
abbrev apart_by_second_negative_log : List LogLine
apart_by_second_negative_log =
    Ruled (AxiomRow (codes "FALSE") 2 0)
    ∷ Ruled (Instance 2 ((codes "X", (call2 "EQUAL" (variable "X") (variable "Y"))) ∷ []))
    ∷ Ruled (Taut ((call1 "NOT" (call2 "EQUAL" (call2 "EQUAL" (variable "X") (variable "Y")) (call0 "FALSE"))) ∷ (call2 "EQUAL" (call2 "EQUAL" (variable "X") (variable "Y")) (call0 "FALSE")) ∷ []))
    ∷ Ruled (Replace 1 1 (1 ∷ 1 ∷ []) (call1 "NEGATIVEP" (variable "Y")) Backwards)
    ∷ Ruled (Replace 5 1 (1 ∷ 1 ∷ 1 ∷ []) (variable "X") Backwards)
    ∷ Ruled (Cut 3 6 (call2 "EQUAL" (variable "X") (variable "Y")))
    ∷ Ruled (Cut 7 4 (call2 "EQUAL" (call2 "EQUAL" (variable "X") (variable "Y")) (call0 "FALSE"))) ∷ []

pub apart_by_second_negative : Derivable [] (clause apart_by_second_negative_clause)
unfolding symbols_of number_of
apart_by_second_negative = everywhere (truth_is_no_falsity_clause ∷ []) apart_by_second_negative_log apart_by_second_negative_clause refl (truth_is_no_falsity, tt) refl

pub apart_by_second_negative_at : (h : History) (x y : Term) → IsTerm (symbols_of h) x → IsTerm (symbols_of h) y → Derivable h (clause ((call2 "EQUAL" (call1 "NEGATIVEP" x) (call0 "FALSE")) ∷ [])) → Derivable h (clause ((call2 "EQUAL" (call1 "NEGATIVEP" y) (call0 "TRUE")) ∷ [])) → Derivable h (clause ((call2 "EQUAL" (call2 "EQUAL" x y) (call0 "FALSE")) ∷ []))
apart_by_second_negative_at h x y ox oy d1 d2 =
    by_law h ((call2 "EQUAL" (call1 "NEGATIVEP" (variable "X")) (call0 "FALSE")) ∷ (call2 "EQUAL" (call1 "NEGATIVEP" (variable "Y")) (call0 "TRUE")) ∷ []) (call2 "EQUAL" (call2 "EQUAL" (variable "X") (variable "Y")) (call0 "FALSE")) ((codes "X", x) ∷ (codes "Y", y) ∷ []) (grown apart_by_second_negative_clause apart_by_second_negative h) (d1, (d2, tt)) ((equal_symbol h, ((equal_symbol h, ox), oy)), (false_symbol h))

-- (LISTP (CONS X1 X2))
abbrev pair_is_list_log : List LogLine
pair_is_list_log =
    Ruled (AxiomRow (codes "CONS") 2 0) ∷ []

pub pair_is_list : Derivable [] (clause pair_is_list_clause)
unfolding symbols_of number_of
pair_is_list = everywhere [] pair_is_list_log pair_is_list_clause refl tt refl

pub pair_is_list_at : (h : History) (x1 x2 : Term) → IsTerm (symbols_of h) x1 → IsTerm (symbols_of h) x2 → Derivable h (clause ((call1 "LISTP" (call2 "CONS" x1 x2)) ∷ []))
pair_is_list_at h x1 x2 ox1 ox2 =
    by_law h [] (call1 "LISTP" (call2 "CONS" (variable "X1") (variable "X2"))) ((codes "X1", x1) ∷ (codes "X2", x2) ∷ []) (grown pair_is_list_clause pair_is_list h) tt (listp_symbol h, ((cons_symbol h, ox1), ox2))

-- (LITATOM (PACK X1))
abbrev atom_is_literal_atom_log : List LogLine
atom_is_literal_atom_log =
    Ruled (AxiomRow (codes "PACK") 2 0) ∷ []

pub atom_is_literal_atom : Derivable [] (clause atom_is_literal_atom_clause)
unfolding symbols_of number_of
atom_is_literal_atom = everywhere [] atom_is_literal_atom_log atom_is_literal_atom_clause refl tt refl

pub atom_is_literal_atom_at : (h : History) (x1 : Term) → IsTerm (symbols_of h) x1 → Derivable h (clause ((call1 "LITATOM" (call1 "PACK" x1)) ∷ []))
atom_is_literal_atom_at h x1 ox1 =
    by_law h [] (call1 "LITATOM" (call1 "PACK" (variable "X1"))) ((codes "X1", x1) ∷ []) (grown atom_is_literal_atom_clause atom_is_literal_atom h) tt (litatom_symbol h, (pack_symbol h, ox1))

-- (NEGATIVEP (MINUS X1))
abbrev negative_is_negative_log : List LogLine
negative_is_negative_log =
    Ruled (AxiomRow (codes "MINUS") 2 0) ∷ []

pub negative_is_negative : Derivable [] (clause negative_is_negative_clause)
unfolding symbols_of number_of
negative_is_negative = everywhere [] negative_is_negative_log negative_is_negative_clause refl tt refl

pub negative_is_negative_at : (h : History) (x1 : Term) → IsTerm (symbols_of h) x1 → Derivable h (clause ((call1 "NEGATIVEP" (call1 "MINUS" x1)) ∷ []))
negative_is_negative_at h x1 ox1 =
    by_law h [] (call1 "NEGATIVEP" (call1 "MINUS" (variable "X1"))) ((codes "X1", x1) ∷ []) (grown negative_is_negative_clause negative_is_negative h) tt (negativep_symbol h, (minus_symbol h, ox1))

pub laws_of_negative_tests_hold : AreDerivable laws_of_negative_tests
laws_of_negative_tests_hold h = (grown negative_test_of_truth_clause negative_test_of_truth h, (grown negative_test_of_falsity_clause negative_test_of_falsity h, (grown negative_test_of_negative_clause negative_test_of_negative h, (grown negative_test_of_number_clause negative_test_of_number h, (grown negative_test_of_list_clause negative_test_of_list h, (grown negative_test_of_literal_atom_clause negative_test_of_literal_atom h, (grown negative_is_true_clause negative_is_true h, (grown apart_by_first_negative_clause apart_by_first_negative h, (grown apart_by_second_negative_clause apart_by_second_negative h, (grown pair_is_list_clause pair_is_list h, (grown atom_is_literal_atom_clause atom_is_literal_atom h, (grown negative_is_negative_clause negative_is_negative h, tt))))))))))))
