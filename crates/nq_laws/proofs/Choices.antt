-- Laws of TRUEP, FALSEP and OR, of which the restrictions of parts are made in the ground history, each by a log over earlier ones, and at terms of any history.
use Rattle.std.proofs.Common.{List, [], ◌∷◌, refl}
use Rattle.std.specs.Prelude.{codes}
use Rattle.nq_logic.specs.Terms.{Term, IsTerm}
use Rattle.nq_logic.specs.Words.{variable, call0, call1, call2, call3}
use Rattle.nq_logic.specs.Histories.{History}
use Rattle.nq_logic.specs.Ground.{symbols_of}
use Rattle.nq_logic.specs.Numerals.{number_of}
use Rattle.nq_logic.specs.Formulas.{clause}
use Rattle.nq_logic.specs.Derivations.{Derivable}
use Rattle.nq_proof.specs.Rules.{Taut, AxiomRow, Cut, Instance, Reflexive, Replace, Backwards}
use Rattle.nq_proof.specs.Logs.{LogLine, Ruled}
use Rattle.nq_proof.proofs.SoundLogs.{everywhere, grown}
use Rattle.nq_proof.proofs.ByLaw.{by_law}
use Rattle.nq_laws.specs.Laws.{AreDerivable}
use Rattle.nq_logic.proofs.Symbols.{falsep_symbol, not_symbol, or_symbol, truep_symbol}
use Rattle.nq_laws.specs.Choices.{truth_is_truth_clause, falsity_is_falsity_clause, truth_is_not_falsity_clause, falsity_is_not_truth_clause, other_than_truth_clause, other_than_falsity_clause, first_of_choice_clause, second_of_choice_clause, none_of_choice_clause, laws_of_choices}
use Rattle.nq_laws.specs.TruthValues.{truth_is_no_falsity_clause}
use Rattle.nq_laws.proofs.TruthValues.{truth_is_no_falsity}
use Rattle.nq_laws.specs.Connectives.{truth_is_true_clause, if_of_truth_clause}
use Rattle.nq_laws.proofs.Connectives.{truth_is_true, if_of_truth}
use Rattle.nq_laws.specs.Definitions.{truep_opens_clause, falsep_opens_clause, or_opens_clause}
use Rattle.nq_laws.proofs.Definitions.{truep_opens, falsep_opens, or_opens}

-- (TRUEP T)
abbrev truth_is_truth_log : List LogLine
truth_is_truth_log =
    Ruled (Reflexive (call0 "TRUE"))
    ∷ Ruled (Instance 1 ((codes "X", (call0 "TRUE")) ∷ []))
    ∷ Ruled (Replace 2 1 [] (call1 "TRUEP" (call0 "TRUE")) Backwards)
    ∷ Ruled (Cut 3 4 (call2 "EQUAL" (call1 "TRUEP" (call0 "TRUE")) (call2 "EQUAL" (call0 "TRUE") (call0 "TRUE")))) ∷ []

pub truth_is_truth : Derivable [] (clause truth_is_truth_clause)
unfolding symbols_of number_of
truth_is_truth = everywhere (truep_opens_clause ∷ []) truth_is_truth_log truth_is_truth_clause refl (truep_opens, tt) refl

pub truth_is_truth_at : (h : History) → Derivable h (clause truth_is_truth_clause)
truth_is_truth_at h = grown truth_is_truth_clause truth_is_truth h

-- (FALSEP F)
abbrev falsity_is_falsity_log : List LogLine
falsity_is_falsity_log =
    Ruled (Reflexive (call0 "FALSE"))
    ∷ Ruled (Instance 1 ((codes "X", (call0 "FALSE")) ∷ []))
    ∷ Ruled (Replace 2 1 [] (call1 "FALSEP" (call0 "FALSE")) Backwards)
    ∷ Ruled (Cut 3 4 (call2 "EQUAL" (call1 "FALSEP" (call0 "FALSE")) (call2 "EQUAL" (call0 "FALSE") (call0 "FALSE")))) ∷ []

pub falsity_is_falsity : Derivable [] (clause falsity_is_falsity_clause)
unfolding symbols_of number_of
falsity_is_falsity = everywhere (falsep_opens_clause ∷ []) falsity_is_falsity_log falsity_is_falsity_clause refl (falsep_opens, tt) refl

pub falsity_is_falsity_at : (h : History) → Derivable h (clause falsity_is_falsity_clause)
falsity_is_falsity_at h = grown falsity_is_falsity_clause falsity_is_falsity h

-- (NOT (FALSEP T))
abbrev truth_is_not_falsity_log : List LogLine
truth_is_not_falsity_log =
    Ruled (Instance 2 ((codes "X", (call0 "TRUE")) ∷ []))
    ∷ Ruled (Replace 1 1 (1 ∷ []) (call1 "FALSEP" (call0 "TRUE")) Backwards)
    ∷ Ruled (Cut 3 4 (call2 "EQUAL" (call1 "FALSEP" (call0 "TRUE")) (call2 "EQUAL" (call0 "TRUE") (call0 "FALSE")))) ∷ []

pub truth_is_not_falsity : Derivable [] (clause truth_is_not_falsity_clause)
unfolding symbols_of number_of
truth_is_not_falsity = everywhere (truth_is_no_falsity_clause ∷ falsep_opens_clause ∷ []) truth_is_not_falsity_log truth_is_not_falsity_clause refl (truth_is_no_falsity, (falsep_opens, tt)) refl

pub truth_is_not_falsity_at : (h : History) → Derivable h (clause truth_is_not_falsity_clause)
truth_is_not_falsity_at h = grown truth_is_not_falsity_clause truth_is_not_falsity h

-- (NOT (TRUEP F))
abbrev falsity_is_not_truth_log : List LogLine
falsity_is_not_truth_log =
    Ruled (AxiomRow (codes "FALSE") 1 0)
    ∷ Ruled (Replace 1 1 [] (call0 "FALSE") Backwards)
    ∷ Ruled (Cut 4 3 (call0 "FALSE"))
    ∷ Ruled (Instance 2 ((codes "X", (call0 "FALSE")) ∷ []))
    ∷ Ruled (Replace 5 1 (1 ∷ []) (call1 "TRUEP" (call0 "FALSE")) Backwards)
    ∷ Ruled (Cut 6 7 (call2 "EQUAL" (call1 "TRUEP" (call0 "FALSE")) (call2 "EQUAL" (call0 "FALSE") (call0 "TRUE")))) ∷ []

pub falsity_is_not_truth : Derivable [] (clause falsity_is_not_truth_clause)
unfolding symbols_of number_of
falsity_is_not_truth = everywhere (truth_is_true_clause ∷ truep_opens_clause ∷ []) falsity_is_not_truth_log falsity_is_not_truth_clause refl (truth_is_true, (truep_opens, tt)) refl

pub falsity_is_not_truth_at : (h : History) → Derivable h (clause falsity_is_not_truth_clause)
falsity_is_not_truth_at h = grown falsity_is_not_truth_clause falsity_is_not_truth h

-- (NOT (NOT (EQUAL X T))), (NOT (TRUEP X))
abbrev other_than_truth_log : List LogLine
other_than_truth_log =
    Ruled (Taut ((call1 "NOT" (call2 "EQUAL" (variable "X") (call0 "TRUE"))) ∷ (call1 "NOT" (call1 "NOT" (call2 "EQUAL" (variable "X") (call0 "TRUE")))) ∷ []))
    ∷ Ruled (Replace 2 1 (1 ∷ []) (call1 "TRUEP" (variable "X")) Backwards)
    ∷ Ruled (Cut 1 3 (call2 "EQUAL" (call1 "TRUEP" (variable "X")) (call2 "EQUAL" (variable "X") (call0 "TRUE"))))
    ∷ Ruled (Taut ((call1 "NOT" (call1 "NOT" (call1 "TRUEP" (variable "X")))) ∷ (call1 "NOT" (call1 "TRUEP" (variable "X"))) ∷ []))
    ∷ Ruled (Cut 4 5 (call1 "NOT" (call1 "TRUEP" (variable "X")))) ∷ []

pub other_than_truth : Derivable [] (clause other_than_truth_clause)
unfolding symbols_of number_of
other_than_truth = everywhere (truep_opens_clause ∷ []) other_than_truth_log other_than_truth_clause refl (truep_opens, tt) refl

pub other_than_truth_at : (h : History) (x : Term) → IsTerm (symbols_of h) x → Derivable h (clause ((call1 "NOT" (call2 "EQUAL" x (call0 "TRUE"))) ∷ [])) → Derivable h (clause ((call1 "NOT" (call1 "TRUEP" x)) ∷ []))
other_than_truth_at h x ox d1 =
    by_law h ((call1 "NOT" (call2 "EQUAL" (variable "X") (call0 "TRUE"))) ∷ []) (call1 "NOT" (call1 "TRUEP" (variable "X"))) ((codes "X", x) ∷ []) (grown other_than_truth_clause other_than_truth h) (d1, tt) (not_symbol h, (truep_symbol h, ox))

-- (NOT (NOT (EQUAL X F))), (NOT (FALSEP X))
abbrev other_than_falsity_log : List LogLine
other_than_falsity_log =
    Ruled (Taut ((call1 "NOT" (call2 "EQUAL" (variable "X") (call0 "FALSE"))) ∷ (call1 "NOT" (call1 "NOT" (call2 "EQUAL" (variable "X") (call0 "FALSE")))) ∷ []))
    ∷ Ruled (Replace 2 1 (1 ∷ []) (call1 "FALSEP" (variable "X")) Backwards)
    ∷ Ruled (Cut 1 3 (call2 "EQUAL" (call1 "FALSEP" (variable "X")) (call2 "EQUAL" (variable "X") (call0 "FALSE"))))
    ∷ Ruled (Taut ((call1 "NOT" (call1 "NOT" (call1 "FALSEP" (variable "X")))) ∷ (call1 "NOT" (call1 "FALSEP" (variable "X"))) ∷ []))
    ∷ Ruled (Cut 4 5 (call1 "NOT" (call1 "FALSEP" (variable "X")))) ∷ []

pub other_than_falsity : Derivable [] (clause other_than_falsity_clause)
unfolding symbols_of number_of
other_than_falsity = everywhere (falsep_opens_clause ∷ []) other_than_falsity_log other_than_falsity_clause refl (falsep_opens, tt) refl

pub other_than_falsity_at : (h : History) (x : Term) → IsTerm (symbols_of h) x → Derivable h (clause ((call1 "NOT" (call2 "EQUAL" x (call0 "FALSE"))) ∷ [])) → Derivable h (clause ((call1 "NOT" (call1 "FALSEP" x)) ∷ []))
other_than_falsity_at h x ox d1 =
    by_law h ((call1 "NOT" (call2 "EQUAL" (variable "X") (call0 "FALSE"))) ∷ []) (call1 "NOT" (call1 "FALSEP" (variable "X"))) ((codes "X", x) ∷ []) (grown other_than_falsity_clause other_than_falsity h) (d1, tt) (not_symbol h, (falsep_symbol h, ox))

-- (NOT X), (OR X Y)
abbrev first_of_choice_log : List LogLine
first_of_choice_log =
    Ruled (Instance 3 ((codes "P", (variable "X")) ∷ (codes "Q", (variable "Y")) ∷ []))
    ∷ Ruled (Instance 1 ((codes "Y", (call0 "TRUE")) ∷ (codes "Z", (call3 "IF" (variable "Y") (call0 "TRUE") (call0 "FALSE"))) ∷ []))
    ∷ Ruled (Replace 2 1 [] (call3 "IF" (variable "X") (call0 "TRUE") (call3 "IF" (variable "Y") (call0 "TRUE") (call0 "FALSE"))) Backwards)
    ∷ Ruled (Cut 5 6 (call2 "EQUAL" (call3 "IF" (variable "X") (call0 "TRUE") (call3 "IF" (variable "Y") (call0 "TRUE") (call0 "FALSE"))) (call0 "TRUE")))
    ∷ Ruled (Replace 7 2 [] (call2 "OR" (variable "X") (variable "Y")) Backwards)
    ∷ Ruled (Cut 4 8 (call2 "EQUAL" (call2 "OR" (variable "X") (variable "Y")) (call3 "IF" (variable "X") (call0 "TRUE") (call3 "IF" (variable "Y") (call0 "TRUE") (call0 "FALSE"))))) ∷ []

pub first_of_choice : Derivable [] (clause first_of_choice_clause)
unfolding symbols_of number_of
first_of_choice = everywhere (if_of_truth_clause ∷ truth_is_true_clause ∷ or_opens_clause ∷ []) first_of_choice_log first_of_choice_clause refl (if_of_truth, (truth_is_true, (or_opens, tt))) refl

pub first_of_choice_at : (h : History) (x y : Term) → IsTerm (symbols_of h) x → IsTerm (symbols_of h) y → Derivable h (clause (x ∷ [])) → Derivable h (clause ((call2 "OR" x y) ∷ []))
first_of_choice_at h x y ox oy d1 =
    by_law h ((variable "X") ∷ []) (call2 "OR" (variable "X") (variable "Y")) ((codes "X", x) ∷ (codes "Y", y) ∷ []) (grown first_of_choice_clause first_of_choice h) (d1, tt) ((or_symbol h, ox), oy)

-- (NOT Y), (OR X Y)
abbrev second_of_choice_log : List LogLine
second_of_choice_log =
    Ruled (AxiomRow (codes "IF") 1 0)
    ∷ Ruled (Instance 1 ((codes "X", (variable "Y")) ∷ (codes "Y", (call0 "TRUE")) ∷ (codes "Z", (call0 "FALSE")) ∷ []))
    ∷ Ruled (Instance 3 ((codes "P", (variable "X")) ∷ (codes "Q", (variable "Y")) ∷ []))
    ∷ Ruled (Instance 1 ((codes "Y", (call0 "TRUE")) ∷ (codes "Z", (call0 "TRUE")) ∷ []))
    ∷ Ruled (Instance 4 ((codes "Y", (call0 "TRUE")) ∷ (codes "Z", (call0 "TRUE")) ∷ []))
    ∷ Ruled (Replace 2 1 [] (call3 "IF" (variable "X") (call0 "TRUE") (call0 "TRUE")) Backwards)
    ∷ Ruled (Cut 7 9 (call2 "EQUAL" (call3 "IF" (variable "X") (call0 "TRUE") (call0 "TRUE")) (call0 "TRUE")))
    ∷ Ruled (Cut 8 9 (call2 "EQUAL" (call3 "IF" (variable "X") (call0 "TRUE") (call0 "TRUE")) (call0 "TRUE")))
    ∷ Ruled (Cut 11 10 (variable "X"))
    ∷ Ruled (Replace 12 1 (3 ∷ []) (call3 "IF" (variable "Y") (call0 "TRUE") (call0 "FALSE")) Backwards)
    ∷ Ruled (Cut 5 13 (call2 "EQUAL" (call3 "IF" (variable "Y") (call0 "TRUE") (call0 "FALSE")) (call0 "TRUE")))
    ∷ Ruled (Replace 14 2 [] (call2 "OR" (variable "X") (variable "Y")) Backwards)
    ∷ Ruled (Cut 6 15 (call2 "EQUAL" (call2 "OR" (variable "X") (variable "Y")) (call3 "IF" (variable "X") (call0 "TRUE") (call3 "IF" (variable "Y") (call0 "TRUE") (call0 "FALSE"))))) ∷ []

pub second_of_choice : Derivable [] (clause second_of_choice_clause)
unfolding symbols_of number_of
second_of_choice = everywhere (if_of_truth_clause ∷ truth_is_true_clause ∷ or_opens_clause ∷ []) second_of_choice_log second_of_choice_clause refl (if_of_truth, (truth_is_true, (or_opens, tt))) refl

pub second_of_choice_at : (h : History) (x y : Term) → IsTerm (symbols_of h) x → IsTerm (symbols_of h) y → Derivable h (clause (y ∷ [])) → Derivable h (clause ((call2 "OR" x y) ∷ []))
second_of_choice_at h x y ox oy d1 =
    by_law h ((variable "Y") ∷ []) (call2 "OR" (variable "X") (variable "Y")) ((codes "X", x) ∷ (codes "Y", y) ∷ []) (grown second_of_choice_clause second_of_choice h) (d1, tt) ((or_symbol h, ox), oy)

-- (NOT (NOT Y)), (NOT (NOT X)), (NOT (OR X Y))
abbrev none_of_choice_log : List LogLine
none_of_choice_log =
    Ruled (AxiomRow (codes "IF") 1 0)
    ∷ Ruled (AxiomRow (codes "FALSE") 1 0)
    ∷ Ruled (Instance 1 ((codes "P", (variable "X")) ∷ (codes "Q", (variable "Y")) ∷ []))
    ∷ Ruled (Instance 2 ((codes "X", (variable "Y")) ∷ (codes "Y", (call0 "TRUE")) ∷ (codes "Z", (call0 "FALSE")) ∷ []))
    ∷ Ruled (Instance 2 ((codes "Y", (call0 "TRUE")) ∷ (codes "Z", (call0 "FALSE")) ∷ []))
    ∷ Ruled (Replace 3 1 (1 ∷ []) (call3 "IF" (variable "X") (call0 "TRUE") (call0 "FALSE")) Backwards)
    ∷ Ruled (Cut 6 7 (call2 "EQUAL" (call3 "IF" (variable "X") (call0 "TRUE") (call0 "FALSE")) (call0 "FALSE")))
    ∷ Ruled (Replace 8 2 (1 ∷ 3 ∷ []) (call3 "IF" (variable "Y") (call0 "TRUE") (call0 "FALSE")) Backwards)
    ∷ Ruled (Cut 5 9 (call2 "EQUAL" (call3 "IF" (variable "Y") (call0 "TRUE") (call0 "FALSE")) (call0 "FALSE")))
    ∷ Ruled (Replace 10 3 (1 ∷ []) (call2 "OR" (variable "X") (variable "Y")) Backwards)
    ∷ Ruled (Cut 4 11 (call2 "EQUAL" (call2 "OR" (variable "X") (variable "Y")) (call3 "IF" (variable "X") (call0 "TRUE") (call3 "IF" (variable "Y") (call0 "TRUE") (call0 "FALSE")))))
    ∷ Ruled (Taut ((call1 "NOT" (variable "Y")) ∷ (call1 "NOT" (call1 "NOT" (variable "Y"))) ∷ []))
    ∷ Ruled (Cut 12 13 (variable "Y"))
    ∷ Ruled (Taut ((call1 "NOT" (variable "X")) ∷ (call1 "NOT" (call1 "NOT" (variable "X"))) ∷ []))
    ∷ Ruled (Cut 14 15 (variable "X"))
    ∷ Ruled (Taut ((call1 "NOT" (call1 "NOT" (call2 "OR" (variable "X") (variable "Y")))) ∷ (call1 "NOT" (call2 "OR" (variable "X") (variable "Y"))) ∷ []))
    ∷ Ruled (Cut 16 17 (call1 "NOT" (call2 "OR" (variable "X") (variable "Y")))) ∷ []

pub none_of_choice : Derivable [] (clause none_of_choice_clause)
unfolding symbols_of number_of
none_of_choice = everywhere (or_opens_clause ∷ []) none_of_choice_log none_of_choice_clause refl (or_opens, tt) refl

pub none_of_choice_at : (h : History) (x y : Term) → IsTerm (symbols_of h) x → IsTerm (symbols_of h) y → Derivable h (clause ((call1 "NOT" x) ∷ [])) → Derivable h (clause ((call1 "NOT" y) ∷ [])) → Derivable h (clause ((call1 "NOT" (call2 "OR" x y)) ∷ []))
none_of_choice_at h x y ox oy d1 d2 =
    by_law h ((call1 "NOT" (variable "Y")) ∷ (call1 "NOT" (variable "X")) ∷ []) (call1 "NOT" (call2 "OR" (variable "X") (variable "Y"))) ((codes "X", x) ∷ (codes "Y", y) ∷ []) (grown none_of_choice_clause none_of_choice h) (d2, (d1, tt)) (not_symbol h, ((or_symbol h, ox), oy))

pub laws_of_choices_hold : AreDerivable laws_of_choices
laws_of_choices_hold h = (grown truth_is_truth_clause truth_is_truth h, (grown falsity_is_falsity_clause falsity_is_falsity h, (grown truth_is_not_falsity_clause truth_is_not_falsity h, (grown falsity_is_not_truth_clause falsity_is_not_truth h, (grown other_than_truth_clause other_than_truth h, (grown other_than_falsity_clause other_than_falsity h, (grown first_of_choice_clause first_of_choice h, (grown second_of_choice_clause second_of_choice h, (grown none_of_choice_clause none_of_choice h, tt)))))))))
