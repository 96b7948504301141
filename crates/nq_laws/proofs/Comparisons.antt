-- Laws of functions that are defined by a test of their arguments in the ground history, each by a log over earlier ones, and at terms of any history.
use Rattle.std.proofs.Common.{List, [], ◌∷◌, refl}
use Rattle.std.specs.Prelude.{codes}
use Rattle.nq_logic.specs.Terms.{Term, IsTerm}
use Rattle.nq_logic.specs.Words.{variable, call0, call1, call2, call3}
use Rattle.nq_logic.specs.Histories.{History}
use Rattle.nq_logic.specs.Ground.{symbols_of}
use Rattle.nq_logic.specs.Numerals.{number_of}
use Rattle.nq_logic.specs.Formulas.{clause}
use Rattle.nq_logic.specs.Derivations.{Derivable}
use Rattle.nq_proof.specs.Rules.{Taut, AxiomRow, Cut, Instance, Reflexive, Replace, Backwards}
use Rattle.nq_proof.specs.Logs.{LogLine, Ruled}
use Rattle.nq_proof.proofs.SoundLogs.{everywhere, grown}
use Rattle.nq_proof.proofs.ByLaw.{by_law}
use Rattle.nq_laws.specs.Laws.{AreDerivable}
use Rattle.nq_logic.proofs.Symbols.{equal_symbol, false_symbol, falsep_symbol, geq_symbol, greaterp_symbol, leq_symbol, max_symbol, nlistp_symbol, true_symbol, truep_symbol}
use Rattle.nq_laws.specs.Comparisons.{truth_test_clause, falsity_test_clause, no_list_test_of_list_clause, no_list_test_of_other_clause, greater_by_less_clause, at_most_where_less_clause, at_most_where_not_less_clause, at_least_where_less_clause, at_least_where_not_less_clause, greatest_where_less_clause, greatest_where_not_less_clause, laws_of_comparisons}
use Rattle.nq_laws.specs.Connectives.{if_of_truth_clause, truth_is_true_clause, not_of_falsity_clause}
use Rattle.nq_laws.proofs.Connectives.{if_of_truth, truth_is_true, not_of_falsity}

-- (NOT (EQUAL (EQUAL X T) C)), (EQUAL (TRUEP X) C)
abbrev truth_test_log : List LogLine
truth_test_log =
    Ruled (AxiomRow (codes "TRUEP") 1 0)
    ∷ Ruled (Taut ((call2 "EQUAL" (call2 "EQUAL" (variable "X") (call0 "TRUE")) (variable "C")) ∷ (call1 "NOT" (call2 "EQUAL" (call2 "EQUAL" (variable "X") (call0 "TRUE")) (variable "C"))) ∷ []))
    ∷ Ruled (Replace 2 1 (1 ∷ []) (call1 "TRUEP" (variable "X")) Backwards)
    ∷ Ruled (Cut 1 3 (call2 "EQUAL" (call1 "TRUEP" (variable "X")) (call2 "EQUAL" (variable "X") (call0 "TRUE"))))
    ∷ Ruled (Taut ((call1 "NOT" (call2 "EQUAL" (call1 "TRUEP" (variable "X")) (variable "C"))) ∷ (call2 "EQUAL" (call1 "TRUEP" (variable "X")) (variable "C")) ∷ []))
    ∷ Ruled (Cut 4 5 (call2 "EQUAL" (call1 "TRUEP" (variable "X")) (variable "C"))) ∷ []

pub truth_test : Derivable [] (clause truth_test_clause)
unfolding symbols_of number_of
truth_test = everywhere [] truth_test_log truth_test_clause refl tt refl

pub truth_test_at : (h : History) (c x : Term) → IsTerm (symbols_of h) c → IsTerm (symbols_of h) x → Derivable h (clause ((call2 "EQUAL" (call2 "EQUAL" x (call0 "TRUE")) c) ∷ [])) → Derivable h (clause ((call2 "EQUAL" (call1 "TRUEP" x) c) ∷ []))
truth_test_at h c x oc ox d1 =
    by_law h ((call2 "EQUAL" (call2 "EQUAL" (variable "X") (call0 "TRUE")) (variable "C")) ∷ []) (call2 "EQUAL" (call1 "TRUEP" (variable "X")) (variable "C")) ((codes "C", c) ∷ (codes "X", x) ∷ []) (grown truth_test_clause truth_test h) (d1, tt) ((equal_symbol h, (truep_symbol h, ox)), oc)

-- (NOT (EQUAL (EQUAL X F) C)), (EQUAL (FALSEP X) C)
abbrev falsity_test_log : List LogLine
falsity_test_log =
    Ruled (AxiomRow (codes "FALSEP") 1 0)
    ∷ Ruled (Taut ((call2 "EQUAL" (call2 "EQUAL" (variable "X") (call0 "FALSE")) (variable "C")) ∷ (call1 "NOT" (call2 "EQUAL" (call2 "EQUAL" (variable "X") (call0 "FALSE")) (variable "C"))) ∷ []))
    ∷ Ruled (Replace 2 1 (1 ∷ []) (call1 "FALSEP" (variable "X")) Backwards)
    ∷ Ruled (Cut 1 3 (call2 "EQUAL" (call1 "FALSEP" (variable "X")) (call2 "EQUAL" (variable "X") (call0 "FALSE"))))
    ∷ Ruled (Taut ((call1 "NOT" (call2 "EQUAL" (call1 "FALSEP" (variable "X")) (variable "C"))) ∷ (call2 "EQUAL" (call1 "FALSEP" (variable "X")) (variable "C")) ∷ []))
    ∷ Ruled (Cut 4 5 (call2 "EQUAL" (call1 "FALSEP" (variable "X")) (variable "C"))) ∷ []

pub falsity_test : Derivable [] (clause falsity_test_clause)
unfolding symbols_of number_of
falsity_test = everywhere [] falsity_test_log falsity_test_clause refl tt refl

pub falsity_test_at : (h : History) (c x : Term) → IsTerm (symbols_of h) c → IsTerm (symbols_of h) x → Derivable h (clause ((call2 "EQUAL" (call2 "EQUAL" x (call0 "FALSE")) c) ∷ [])) → Derivable h (clause ((call2 "EQUAL" (call1 "FALSEP" x) c) ∷ []))
falsity_test_at h c x oc ox d1 =
    by_law h ((call2 "EQUAL" (call2 "EQUAL" (variable "X") (call0 "FALSE")) (variable "C")) ∷ []) (call2 "EQUAL" (call1 "FALSEP" (variable "X")) (variable "C")) ((codes "C", c) ∷ (codes "X", x) ∷ []) (grown falsity_test_clause falsity_test h) (d1, tt) ((equal_symbol h, (falsep_symbol h, ox)), oc)

-- (NOT (EQUAL (LISTP X) T)), (EQUAL (NLISTP X) F)
abbrev no_list_test_of_list_log : List LogLine
no_list_test_of_list_log =
    Ruled (Reflexive (call0 "FALSE"))
    ∷ Ruled (AxiomRow (codes "NOT") 1 0)
    ∷ Ruled (AxiomRow (codes "NLISTP") 1 0)
    ∷ Ruled (Instance 4 ((codes "P", (call0 "TRUE")) ∷ []))
    ∷ Ruled (Instance 1 ((codes "X", (call0 "TRUE")) ∷ (codes "Y", (call0 "FALSE")) ∷ (codes "Z", (call0 "TRUE")) ∷ []))
    ∷ Ruled (Cut 2 7 (call0 "TRUE"))
    ∷ Ruled (Replace 3 1 (1 ∷ []) (call3 "IF" (call0 "TRUE") (call0 "FALSE") (call0 "TRUE")) Backwards)
    ∷ Ruled (Cut 8 9 (call2 "EQUAL" (call3 "IF" (call0 "TRUE") (call0 "FALSE") (call0 "TRUE")) (call0 "FALSE")))
    ∷ Ruled (Replace 10 1 (1 ∷ []) (call1 "NOT" (call0 "TRUE")) Backwards)
    ∷ Ruled (Cut 6 11 (call2 "EQUAL" (call1 "NOT" (call0 "TRUE")) (call3 "IF" (call0 "TRUE") (call0 "FALSE") (call0 "TRUE"))))
    ∷ Ruled (Replace 12 1 (1 ∷ 1 ∷ []) (call1 "LISTP" (variable "X")) Backwards)
    ∷ Ruled (Replace 13 1 (1 ∷ []) (call1 "NLISTP" (variable "X")) Backwards)
    ∷ Ruled (Cut 5 14 (call2 "EQUAL" (call1 "NLISTP" (variable "X")) (call1 "NOT" (call1 "LISTP" (variable "X")))))
    ∷ Ruled (Taut ((call1 "NOT" (call2 "EQUAL" (call1 "NLISTP" (variable "X")) (call0 "FALSE"))) ∷ (call2 "EQUAL" (call1 "NLISTP" (variable "X")) (call0 "FALSE")) ∷ []))
    ∷ Ruled (Cut 15 16 (call2 "EQUAL" (call1 "NLISTP" (variable "X")) (call0 "FALSE"))) ∷ []

pub no_list_test_of_list : Derivable [] (clause no_list_test_of_list_clause)
unfolding symbols_of number_of
no_list_test_of_list = everywhere (if_of_truth_clause ∷ truth_is_true_clause ∷ []) no_list_test_of_list_log no_list_test_of_list_clause refl (if_of_truth, (truth_is_true, tt)) refl

pub no_list_test_of_list_at : (h : History) (x : Term) → IsTerm (symbols_of h) x → Derivable h (clause ((call2 "EQUAL" (call1 "LISTP" x) (call0 "TRUE")) ∷ [])) → Derivable h (clause ((call2 "EQUAL" (call1 "NLISTP" x) (call0 "FALSE")) ∷ []))
no_list_test_of_list_at h x ox d1 =
    by_law h ((call2 "EQUAL" (call1 "LISTP" (variable "X")) (call0 "TRUE")) ∷ []) (call2 "EQUAL" (call1 "NLISTP" (variable "X")) (call0 "FALSE")) ((codes "X", x) ∷ []) (grown no_list_test_of_list_clause no_list_test_of_list h) (d1, tt) ((equal_symbol h, (nlistp_symbol h, ox)), (false_symbol h))

-- (NOT (EQUAL (LISTP X) F)), (EQUAL (NLISTP X) T)
abbrev no_list_test_of_other_log : List LogLine
no_list_test_of_other_log =
    Ruled (AxiomRow (codes "NLISTP") 1 0)
    ∷ Ruled (Replace 1 1 (1 ∷ 1 ∷ []) (call1 "LISTP" (variable "X")) Backwards)
    ∷ Ruled (Replace 3 1 (1 ∷ []) (call1 "NLISTP" (variable "X")) Backwards)
    ∷ Ruled (Cut 2 4 (call2 "EQUAL" (call1 "NLISTP" (variable "X")) (call1 "NOT" (call1 "LISTP" (variable "X")))))
    ∷ Ruled (Taut ((call1 "NOT" (call2 "EQUAL" (call1 "NLISTP" (variable "X")) (call0 "TRUE"))) ∷ (call2 "EQUAL" (call1 "NLISTP" (variable "X")) (call0 "TRUE")) ∷ []))
    ∷ Ruled (Cut 5 6 (call2 "EQUAL" (call1 "NLISTP" (variable "X")) (call0 "TRUE"))) ∷ []

pub no_list_test_of_other : Derivable [] (clause no_list_test_of_other_clause)
unfolding symbols_of number_of
no_list_test_of_other = everywhere (not_of_falsity_clause ∷ []) no_list_test_of_other_log no_list_test_of_other_clause refl (not_of_falsity, tt) refl

pub no_list_test_of_other_at : (h : History) (x : Term) → IsTerm (symbols_of h) x → Derivable h (clause ((call2 "EQUAL" (call1 "LISTP" x) (call0 "FALSE")) ∷ [])) → Derivable h (clause ((call2 "EQUAL" (call1 "NLISTP" x) (call0 "TRUE")) ∷ []))
no_list_test_of_other_at h x ox d1 =
    by_law h ((call2 "EQUAL" (call1 "LISTP" (variable "X")) (call0 "FALSE")) ∷ []) (call2 "EQUAL" (call1 "NLISTP" (variable "X")) (call0 "TRUE")) ((codes "X", x) ∷ []) (grown no_list_test_of_other_clause no_list_test_of_other h) (d1, tt) ((equal_symbol h, (nlistp_symbol h, ox)), (true_symbol h))

-- (NOT (EQUAL (LESSP Y X) C)), (EQUAL (GREATERP X Y) C)
abbrev greater_by_less_log : List LogLine
greater_by_less_log =
    Ruled (AxiomRow (codes "GREATERP") 1 0)
    ∷ Ruled (Taut ((call2 "EQUAL" (call2 "LESSP" (variable "Y") (variable "X")) (variable "C")) ∷ (call1 "NOT" (call2 "EQUAL" (call2 "LESSP" (variable "Y") (variable "X")) (variable "C"))) ∷ []))
    ∷ Ruled (Replace 2 1 (1 ∷ []) (call2 "GREATERP" (variable "X") (variable "Y")) Backwards)
    ∷ Ruled (Cut 1 3 (call2 "EQUAL" (call2 "GREATERP" (variable "X") (variable "Y")) (call2 "LESSP" (variable "Y") (variable "X"))))
    ∷ Ruled (Taut ((call1 "NOT" (call2 "EQUAL" (call2 "GREATERP" (variable "X") (variable "Y")) (variable "C"))) ∷ (call2 "EQUAL" (call2 "GREATERP" (variable "X") (variable "Y")) (variable "C")) ∷ []))
    ∷ Ruled (Cut 4 5 (call2 "EQUAL" (call2 "GREATERP" (variable "X") (variable "Y")) (variable "C"))) ∷ []

pub greater_by_less : Derivable [] (clause greater_by_less_clause)
unfolding symbols_of number_of
greater_by_less = everywhere [] greater_by_less_log greater_by_less_clause refl tt refl

pub greater_by_less_at : (h : History) (c x y : Term) → IsTerm (symbols_of h) c → IsTerm (symbols_of h) x → IsTerm (symbols_of h) y → Derivable h (clause ((call2 "EQUAL" (call2 "LESSP" y x) c) ∷ [])) → Derivable h (clause ((call2 "EQUAL" (call2 "GREATERP" x y) c) ∷ []))
greater_by_less_at h c x y oc ox oy d1 =
    by_law h ((call2 "EQUAL" (call2 "LESSP" (variable "Y") (variable "X")) (variable "C")) ∷ []) (call2 "EQUAL" (call2 "GREATERP" (variable "X") (variable "Y")) (variable "C")) ((codes "C", c) ∷ (codes "X", x) ∷ (codes "Y", y) ∷ []) (grown greater_by_less_clause greater_by_less h) (d1, tt) ((equal_symbol h, ((greaterp_symbol h, ox), oy)), oc)

-- (NOT (EQUAL (LESSP Y X) T)), (EQUAL (LEQ X Y) F)
abbrev at_most_where_less_log : List LogLine
at_most_where_less_log =
    Ruled (Reflexive (call0 "FALSE"))
    ∷ Ruled (AxiomRow (codes "NOT") 1 0)
    ∷ Ruled (Instance 4 ((codes "P", (call0 "TRUE")) ∷ []))
    ∷ Ruled (Instance 1 ((codes "X", (call0 "TRUE")) ∷ (codes "Y", (call0 "FALSE")) ∷ (codes "Z", (call0 "TRUE")) ∷ []))
    ∷ Ruled (Cut 2 6 (call0 "TRUE"))
    ∷ Ruled (Replace 3 1 (1 ∷ []) (call3 "IF" (call0 "TRUE") (call0 "FALSE") (call0 "TRUE")) Backwards)
    ∷ Ruled (Cut 7 8 (call2 "EQUAL" (call3 "IF" (call0 "TRUE") (call0 "FALSE") (call0 "TRUE")) (call0 "FALSE")))
    ∷ Ruled (Replace 9 1 (1 ∷ []) (call1 "NOT" (call0 "TRUE")) Backwards)
    ∷ Ruled (Cut 5 10 (call2 "EQUAL" (call1 "NOT" (call0 "TRUE")) (call3 "IF" (call0 "TRUE") (call0 "FALSE") (call0 "TRUE"))))
    ∷ Ruled (AxiomRow (codes "LEQ") 1 0)
    ∷ Ruled (Replace 11 1 (1 ∷ 1 ∷ []) (call2 "LESSP" (variable "Y") (variable "X")) Backwards)
    ∷ Ruled (Replace 13 1 (1 ∷ []) (call2 "LEQ" (variable "X") (variable "Y")) Backwards)
    ∷ Ruled (Cut 12 14 (call2 "EQUAL" (call2 "LEQ" (variable "X") (variable "Y")) (call1 "NOT" (call2 "LESSP" (variable "Y") (variable "X")))))
    ∷ Ruled (Taut ((call1 "NOT" (call2 "EQUAL" (call2 "LEQ" (variable "X") (variable "Y")) (call0 "FALSE"))) ∷ (call2 "EQUAL" (call2 "LEQ" (variable "X") (variable "Y")) (call0 "FALSE")) ∷ []))
    ∷ Ruled (Cut 15 16 (call2 "EQUAL" (call2 "LEQ" (variable "X") (variable "Y")) (call0 "FALSE"))) ∷ []

pub at_most_where_less : Derivable [] (clause at_most_where_less_clause)
unfolding symbols_of number_of
at_most_where_less = everywhere (if_of_truth_clause ∷ truth_is_true_clause ∷ []) at_most_where_less_log at_most_where_less_clause refl (if_of_truth, (truth_is_true, tt)) refl

pub at_most_where_less_at : (h : History) (x y : Term) → IsTerm (symbols_of h) x → IsTerm (symbols_of h) y → Derivable h (clause ((call2 "EQUAL" (call2 "LESSP" y x) (call0 "TRUE")) ∷ [])) → Derivable h (clause ((call2 "EQUAL" (call2 "LEQ" x y) (call0 "FALSE")) ∷ []))
at_most_where_less_at h x y ox oy d1 =
    by_law h ((call2 "EQUAL" (call2 "LESSP" (variable "Y") (variable "X")) (call0 "TRUE")) ∷ []) (call2 "EQUAL" (call2 "LEQ" (variable "X") (variable "Y")) (call0 "FALSE")) ((codes "X", x) ∷ (codes "Y", y) ∷ []) (grown at_most_where_less_clause at_most_where_less h) (d1, tt) ((equal_symbol h, ((leq_symbol h, ox), oy)), (false_symbol h))

-- (NOT (EQUAL (LESSP Y X) F)), (EQUAL (LEQ X Y) T)
abbrev at_most_where_not_less_log : List LogLine
at_most_where_not_less_log =
    Ruled (AxiomRow (codes "LEQ") 1 0)
    ∷ Ruled (Replace 1 1 (1 ∷ 1 ∷ []) (call2 "LESSP" (variable "Y") (variable "X")) Backwards)
    ∷ Ruled (Replace 3 1 (1 ∷ []) (call2 "LEQ" (variable "X") (variable "Y")) Backwards)
    ∷ Ruled (Cut 2 4 (call2 "EQUAL" (call2 "LEQ" (variable "X") (variable "Y")) (call1 "NOT" (call2 "LESSP" (variable "Y") (variable "X")))))
    ∷ Ruled (Taut ((call1 "NOT" (call2 "EQUAL" (call2 "LEQ" (variable "X") (variable "Y")) (call0 "TRUE"))) ∷ (call2 "EQUAL" (call2 "LEQ" (variable "X") (variable "Y")) (call0 "TRUE")) ∷ []))
    ∷ Ruled (Cut 5 6 (call2 "EQUAL" (call2 "LEQ" (variable "X") (variable "Y")) (call0 "TRUE"))) ∷ []

pub at_most_where_not_less : Derivable [] (clause at_most_where_not_less_clause)
unfolding symbols_of number_of
at_most_where_not_less = everywhere (not_of_falsity_clause ∷ []) at_most_where_not_less_log at_most_where_not_less_clause refl (not_of_falsity, tt) refl

pub at_most_where_not_less_at : (h : History) (x y : Term) → IsTerm (symbols_of h) x → IsTerm (symbols_of h) y → Derivable h (clause ((call2 "EQUAL" (call2 "LESSP" y x) (call0 "FALSE")) ∷ [])) → Derivable h (clause ((call2 "EQUAL" (call2 "LEQ" x y) (call0 "TRUE")) ∷ []))
at_most_where_not_less_at h x y ox oy d1 =
    by_law h ((call2 "EQUAL" (call2 "LESSP" (variable "Y") (variable "X")) (call0 "FALSE")) ∷ []) (call2 "EQUAL" (call2 "LEQ" (variable "X") (variable "Y")) (call0 "TRUE")) ((codes "X", x) ∷ (codes "Y", y) ∷ []) (grown at_most_where_not_less_clause at_most_where_not_less h) (d1, tt) ((equal_symbol h, ((leq_symbol h, ox), oy)), (true_symbol h))

-- (NOT (EQUAL (LESSP X Y) T)), (EQUAL (GEQ X Y) F)
abbrev at_least_where_less_log : List LogLine
at_least_where_less_log =
    Ruled (Reflexive (call0 "FALSE"))
    ∷ Ruled (AxiomRow (codes "NOT") 1 0)
    ∷ Ruled (Instance 4 ((codes "P", (call0 "TRUE")) ∷ []))
    ∷ Ruled (Instance 1 ((codes "X", (call0 "TRUE")) ∷ (codes "Y", (call0 "FALSE")) ∷ (codes "Z", (call0 "TRUE")) ∷ []))
    ∷ Ruled (Cut 2 6 (call0 "TRUE"))
    ∷ Ruled (Replace 3 1 (1 ∷ []) (call3 "IF" (call0 "TRUE") (call0 "FALSE") (call0 "TRUE")) Backwards)
    ∷ Ruled (Cut 7 8 (call2 "EQUAL" (call3 "IF" (call0 "TRUE") (call0 "FALSE") (call0 "TRUE")) (call0 "FALSE")))
    ∷ Ruled (Replace 9 1 (1 ∷ []) (call1 "NOT" (call0 "TRUE")) Backwards)
    ∷ Ruled (Cut 5 10 (call2 "EQUAL" (call1 "NOT" (call0 "TRUE")) (call3 "IF" (call0 "TRUE") (call0 "FALSE") (call0 "TRUE"))))
    ∷ Ruled (AxiomRow (codes "GEQ") 1 0)
    ∷ Ruled (Replace 11 1 (1 ∷ 1 ∷ []) (call2 "LESSP" (variable "X") (variable "Y")) Backwards)
    ∷ Ruled (Replace 13 1 (1 ∷ []) (call2 "GEQ" (variable "X") (variable "Y")) Backwards)
    ∷ Ruled (Cut 12 14 (call2 "EQUAL" (call2 "GEQ" (variable "X") (variable "Y")) (call1 "NOT" (call2 "LESSP" (variable "X") (variable "Y")))))
    ∷ Ruled (Taut ((call1 "NOT" (call2 "EQUAL" (call2 "GEQ" (variable "X") (variable "Y")) (call0 "FALSE"))) ∷ (call2 "EQUAL" (call2 "GEQ" (variable "X") (variable "Y")) (call0 "FALSE")) ∷ []))
    ∷ Ruled (Cut 15 16 (call2 "EQUAL" (call2 "GEQ" (variable "X") (variable "Y")) (call0 "FALSE"))) ∷ []

pub at_least_where_less : Derivable [] (clause at_least_where_less_clause)
unfolding symbols_of number_of
at_least_where_less = everywhere (if_of_truth_clause ∷ truth_is_true_clause ∷ []) at_least_where_less_log at_least_where_less_clause refl (if_of_truth, (truth_is_true, tt)) refl

pub at_least_where_less_at : (h : History) (x y : Term) → IsTerm (symbols_of h) x → IsTerm (symbols_of h) y → Derivable h (clause ((call2 "EQUAL" (call2 "LESSP" x y) (call0 "TRUE")) ∷ [])) → Derivable h (clause ((call2 "EQUAL" (call2 "GEQ" x y) (call0 "FALSE")) ∷ []))
at_least_where_less_at h x y ox oy d1 =
    by_law h ((call2 "EQUAL" (call2 "LESSP" (variable "X") (variable "Y")) (call0 "TRUE")) ∷ []) (call2 "EQUAL" (call2 "GEQ" (variable "X") (variable "Y")) (call0 "FALSE")) ((codes "X", x) ∷ (codes "Y", y) ∷ []) (grown at_least_where_less_clause at_least_where_less h) (d1, tt) ((equal_symbol h, ((geq_symbol h, ox), oy)), (false_symbol h))

-- (NOT (EQUAL (LESSP X Y) F)), (EQUAL (GEQ X Y) T)
abbrev at_least_where_not_less_log : List LogLine
at_least_where_not_less_log =
    Ruled (AxiomRow (codes "GEQ") 1 0)
    ∷ Ruled (Replace 1 1 (1 ∷ 1 ∷ []) (call2 "LESSP" (variable "X") (variable "Y")) Backwards)
    ∷ Ruled (Replace 3 1 (1 ∷ []) (call2 "GEQ" (variable "X") (variable "Y")) Backwards)
    ∷ Ruled (Cut 2 4 (call2 "EQUAL" (call2 "GEQ" (variable "X") (variable "Y")) (call1 "NOT" (call2 "LESSP" (variable "X") (variable "Y")))))
    ∷ Ruled (Taut ((call1 "NOT" (call2 "EQUAL" (call2 "GEQ" (variable "X") (variable "Y")) (call0 "TRUE"))) ∷ (call2 "EQUAL" (call2 "GEQ" (variable "X") (variable "Y")) (call0 "TRUE")) ∷ []))
    ∷ Ruled (Cut 5 6 (call2 "EQUAL" (call2 "GEQ" (variable "X") (variable "Y")) (call0 "TRUE"))) ∷ []

pub at_least_where_not_less : Derivable [] (clause at_least_where_not_less_clause)
unfolding symbols_of number_of
at_least_where_not_less = everywhere (not_of_falsity_clause ∷ []) at_least_where_not_less_log at_least_where_not_less_clause refl (not_of_falsity, tt) refl

pub at_least_where_not_less_at : (h : History) (x y : Term) → IsTerm (symbols_of h) x → IsTerm (symbols_of h) y → Derivable h (clause ((call2 "EQUAL" (call2 "LESSP" x y) (call0 "FALSE")) ∷ [])) → Derivable h (clause ((call2 "EQUAL" (call2 "GEQ" x y) (call0 "TRUE")) ∷ []))
at_least_where_not_less_at h x y ox oy d1 =
    by_law h ((call2 "EQUAL" (call2 "LESSP" (variable "X") (variable "Y")) (call0 "FALSE")) ∷ []) (call2 "EQUAL" (call2 "GEQ" (variable "X") (variable "Y")) (call0 "TRUE")) ((codes "X", x) ∷ (codes "Y", y) ∷ []) (grown at_least_where_not_less_clause at_least_where_not_less h) (d1, tt) ((equal_symbol h, ((geq_symbol h, ox), oy)), (true_symbol h))

-- (NOT (EQUAL (LESSP X Y) T)), (EQUAL (MAX X Y) Y)
abbrev greatest_where_less_log : List LogLine
greatest_where_less_log =
    Ruled (AxiomRow (codes "MAX") 1 0)
    ∷ Ruled (Instance 1 ((codes "X", (call0 "TRUE")) ∷ (codes "Z", (call1 "FIX" (variable "X"))) ∷ []))
    ∷ Ruled (Cut 2 4 (call0 "TRUE"))
    ∷ Ruled (Reflexive (variable "Y"))
    ∷ Ruled (Replace 6 1 (1 ∷ []) (call3 "IF" (call0 "TRUE") (variable "Y") (call1 "FIX" (variable "X"))) Backwards)
    ∷ Ruled (Cut 5 7 (call2 "EQUAL" (call3 "IF" (call0 "TRUE") (variable "Y") (call1 "FIX" (variable "X"))) (variable "Y")))
    ∷ Ruled (Replace 8 1 (1 ∷ 1 ∷ []) (call2 "LESSP" (variable "X") (variable "Y")) Backwards)
    ∷ Ruled (Replace 9 1 (1 ∷ []) (call2 "MAX" (variable "X") (variable "Y")) Backwards)
    ∷ Ruled (Cut 3 10 (call2 "EQUAL" (call2 "MAX" (variable "X") (variable "Y")) (call3 "IF" (call2 "LESSP" (variable "X") (variable "Y")) (variable "Y") (call1 "FIX" (variable "X")))))
    ∷ Ruled (Taut ((call1 "NOT" (call2 "EQUAL" (call2 "MAX" (variable "X") (variable "Y")) (variable "Y"))) ∷ (call2 "EQUAL" (call2 "MAX" (variable "X") (variable "Y")) (variable "Y")) ∷ []))
    ∷ Ruled (Cut 11 12 (call2 "EQUAL" (call2 "MAX" (variable "X") (variable "Y")) (variable "Y"))) ∷ []

pub greatest_where_less : Derivable [] (clause greatest_where_less_clause)
unfolding symbols_of number_of
greatest_where_less = everywhere (if_of_truth_clause ∷ truth_is_true_clause ∷ []) greatest_where_less_log greatest_where_less_clause refl (if_of_truth, (truth_is_true, tt)) refl

pub greatest_where_less_at : (h : History) (x y : Term) → IsTerm (symbols_of h) x → IsTerm (symbols_of h) y → Derivable h (clause ((call2 "EQUAL" (call2 "LESSP" x y) (call0 "TRUE")) ∷ [])) → Derivable h (clause ((call2 "EQUAL" (call2 "MAX" x y) y) ∷ []))
greatest_where_less_at h x y ox oy d1 =
    by_law h ((call2 "EQUAL" (call2 "LESSP" (variable "X") (variable "Y")) (call0 "TRUE")) ∷ []) (call2 "EQUAL" (call2 "MAX" (variable "X") (variable "Y")) (variable "Y")) ((codes "X", x) ∷ (codes "Y", y) ∷ []) (grown greatest_where_less_clause greatest_where_less h) (d1, tt) ((equal_symbol h, ((max_symbol h, ox), oy)), oy)

-- (NOT (EQUAL (FIX X) A)), (NOT (EQUAL (LESSP X Y) F)), (EQUAL (MAX X Y) A)
abbrev greatest_where_not_less_log : List LogLine
greatest_where_not_less_log =
    Ruled (AxiomRow (codes "IF") 1 0)
    ∷ Ruled (AxiomRow (codes "FALSE") 1 0)
    ∷ Ruled (Reflexive (variable "A"))
    ∷ Ruled (AxiomRow (codes "MAX") 1 0)
    ∷ Ruled (Instance 1 ((codes "X", (call0 "FALSE")) ∷ (codes "Z", (variable "A")) ∷ []))
    ∷ Ruled (Cut 5 2 (call0 "FALSE"))
    ∷ Ruled (Replace 3 1 (1 ∷ []) (call3 "IF" (call0 "FALSE") (variable "Y") (variable "A")) Backwards)
    ∷ Ruled (Cut 6 7 (call2 "EQUAL" (call3 "IF" (call0 "FALSE") (variable "Y") (variable "A")) (variable "A")))
    ∷ Ruled (Replace 8 1 (1 ∷ 3 ∷ []) (call1 "FIX" (variable "X")) Backwards)
    ∷ Ruled (Replace 9 1 (1 ∷ 1 ∷ []) (call2 "LESSP" (variable "X") (variable "Y")) Backwards)
    ∷ Ruled (Replace 10 1 (1 ∷ []) (call2 "MAX" (variable "X") (variable "Y")) Backwards)
    ∷ Ruled (Cut 4 11 (call2 "EQUAL" (call2 "MAX" (variable "X") (variable "Y")) (call3 "IF" (call2 "LESSP" (variable "X") (variable "Y")) (variable "Y") (call1 "FIX" (variable "X")))))
    ∷ Ruled (Taut ((call1 "NOT" (call2 "EQUAL" (call2 "MAX" (variable "X") (variable "Y")) (variable "A"))) ∷ (call2 "EQUAL" (call2 "MAX" (variable "X") (variable "Y")) (variable "A")) ∷ []))
    ∷ Ruled (Cut 12 13 (call2 "EQUAL" (call2 "MAX" (variable "X") (variable "Y")) (variable "A"))) ∷ []

pub greatest_where_not_less : Derivable [] (clause greatest_where_not_less_clause)
unfolding symbols_of number_of
greatest_where_not_less = everywhere [] greatest_where_not_less_log greatest_where_not_less_clause refl tt refl

pub greatest_where_not_less_at : (h : History) (a x y : Term) → IsTerm (symbols_of h) a → IsTerm (symbols_of h) x → IsTerm (symbols_of h) y → Derivable h (clause ((call2 "EQUAL" (call2 "LESSP" x y) (call0 "FALSE")) ∷ [])) → Derivable h (clause ((call2 "EQUAL" (call1 "FIX" x) a) ∷ [])) → Derivable h (clause ((call2 "EQUAL" (call2 "MAX" x y) a) ∷ []))
greatest_where_not_less_at h a x y oa ox oy d1 d2 =
    by_law h ((call2 "EQUAL" (call1 "FIX" (variable "X")) (variable "A")) ∷ (call2 "EQUAL" (call2 "LESSP" (variable "X") (variable "Y")) (call0 "FALSE")) ∷ []) (call2 "EQUAL" (call2 "MAX" (variable "X") (variable "Y")) (variable "A")) ((codes "A", a) ∷ (codes "X", x) ∷ (codes "Y", y) ∷ []) (grown greatest_where_not_less_clause greatest_where_not_less h) (d2, (d1, tt)) ((equal_symbol h, ((max_symbol h, ox), oy)), oa)

pub laws_of_comparisons_hold : AreDerivable laws_of_comparisons
laws_of_comparisons_hold h = (grown truth_test_clause truth_test h, (grown falsity_test_clause falsity_test h, (grown no_list_test_of_list_clause no_list_test_of_list h, (grown no_list_test_of_other_clause no_list_test_of_other h, (grown greater_by_less_clause greater_by_less h, (grown at_most_where_less_clause at_most_where_less h, (grown at_most_where_not_less_clause at_most_where_not_less h, (grown at_least_where_less_clause at_least_where_less h, (grown at_least_where_not_less_clause at_least_where_not_less h, (grown greatest_where_less_clause greatest_where_less h, (grown greatest_where_not_less_clause greatest_where_not_less h, tt)))))))))))
