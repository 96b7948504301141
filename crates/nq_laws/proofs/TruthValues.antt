-- Laws of T and F as values in the ground history, each by a log over earlier ones, and at terms of any history.
use Rattle.std.proofs.Common.{List, [], ◌∷◌, refl}
use Rattle.std.specs.Prelude.{codes}
use Rattle.nq_logic.specs.Terms.{Term, IsTerm}
use Rattle.nq_logic.specs.Words.{variable, call0, call1, call2}
use Rattle.nq_logic.specs.Histories.{History}
use Rattle.nq_logic.specs.Ground.{symbols_of}
use Rattle.nq_logic.specs.Numerals.{number_of}
use Rattle.nq_logic.specs.Formulas.{clause}
use Rattle.nq_logic.specs.Derivations.{Derivable}
use Rattle.nq_proof.specs.Rules.{Taut, AxiomRow, Cut, Instance, Reflexive, Replace, Forwards, Backwards}
use Rattle.nq_proof.specs.Logs.{LogLine, Ruled}
use Rattle.nq_proof.proofs.SoundLogs.{everywhere, grown}
use Rattle.nq_proof.proofs.ByLaw.{by_law}
use Rattle.nq_laws.specs.Laws.{AreDerivable}
use Rattle.nq_logic.proofs.Symbols.{equal_symbol, true_symbol}
use Rattle.nq_laws.specs.TruthValues.{truth_is_no_falsity_clause, same_are_equal_clause, truth_differs_from_falsity_clause, falsity_differs_from_truth_clause, laws_of_truth_values}

-- (NOT (EQUAL T F))
abbrev truth_is_no_falsity_log : List LogLine
truth_is_no_falsity_log =
    Ruled (AxiomRow (codes "TRUE") 1 0)
    ∷ Ruled (AxiomRow (codes "FALSE") 1 0)
    ∷ Ruled (Replace 1 1 [] (call0 "FALSE") Forwards)
    ∷ Ruled (Cut 3 2 (call0 "FALSE")) ∷ []

pub truth_is_no_falsity : Derivable [] (clause truth_is_no_falsity_clause)
unfolding symbols_of number_of
truth_is_no_falsity = everywhere [] truth_is_no_falsity_log truth_is_no_falsity_clause refl tt refl

pub truth_is_no_falsity_at : (h : History) → Derivable h (clause truth_is_no_falsity_clause)
truth_is_no_falsity_at h = grown truth_is_no_falsity_clause truth_is_no_falsity h

-- (EQUAL (EQUAL X X) T)
abbrev same_are_equal_log : List LogLine
same_are_equal_log =
    Ruled (AxiomRow (codes "FALSE") 1 0)
    ∷ Ruled (Reflexive (variable "X"))
    ∷ Ruled (AxiomRow (codes "EQUAL") 1 0)
    ∷ Ruled (Instance 3 ((codes "Y", (variable "X")) ∷ []))
    ∷ Ruled (Taut ((call2 "EQUAL" (variable "X") (variable "X")) ∷ (call1 "NOT" (call2 "EQUAL" (variable "X") (variable "X"))) ∷ []))
    ∷ Ruled (Replace 5 1 [] (call0 "FALSE") Forwards)
    ∷ Ruled (Cut 6 1 (call0 "FALSE"))
    ∷ Ruled (Cut 2 7 (call2 "EQUAL" (variable "X") (variable "X")))
    ∷ Ruled (Cut 4 8 (call2 "EQUAL" (call2 "EQUAL" (variable "X") (variable "X")) (call0 "FALSE"))) ∷ []

pub same_are_equal : Derivable [] (clause same_are_equal_clause)
unfolding symbols_of number_of
same_are_equal = everywhere [] same_are_equal_log same_are_equal_clause refl tt refl

pub same_are_equal_at : (h : History) (x : Term) → IsTerm (symbols_of h) x → Derivable h (clause ((call2 "EQUAL" (call2 "EQUAL" x x) (call0 "TRUE")) ∷ []))
same_are_equal_at h x ox =
    by_law h [] (call2 "EQUAL" (call2 "EQUAL" (variable "X") (variable "X")) (call0 "TRUE")) ((codes "X", x) ∷ []) (grown same_are_equal_clause same_are_equal h) tt ((equal_symbol h, ((equal_symbol h, ox), ox)), (true_symbol h))

-- (EQUAL (EQUAL T F) F)
abbrev truth_differs_from_falsity_log : List LogLine
truth_differs_from_falsity_log =
    Ruled (AxiomRow (codes "FALSE") 2 0)
    ∷ Ruled (Instance 2 ((codes "X", (call2 "EQUAL" (call0 "TRUE") (call0 "FALSE"))) ∷ []))
    ∷ Ruled (Cut 3 1 (call2 "EQUAL" (call0 "TRUE") (call0 "FALSE"))) ∷ []

pub truth_differs_from_falsity : Derivable [] (clause truth_differs_from_falsity_clause)
unfolding symbols_of number_of
truth_differs_from_falsity = everywhere (truth_is_no_falsity_clause ∷ []) truth_differs_from_falsity_log truth_differs_from_falsity_clause refl (truth_is_no_falsity, tt) refl

pub truth_differs_from_falsity_at : (h : History) → Derivable h (clause truth_differs_from_falsity_clause)
truth_differs_from_falsity_at h = grown truth_differs_from_falsity_clause truth_differs_from_falsity h

-- (EQUAL (EQUAL F T) F)
abbrev falsity_differs_from_truth_log : List LogLine
falsity_differs_from_truth_log =
    Ruled (AxiomRow (codes "TRUE") 1 0)
    ∷ Ruled (AxiomRow (codes "FALSE") 1 0)
    ∷ Ruled (AxiomRow (codes "FALSE") 2 0)
    ∷ Ruled (Replace 1 1 [] (call0 "FALSE") Backwards)
    ∷ Ruled (Cut 4 2 (call0 "FALSE"))
    ∷ Ruled (Instance 3 ((codes "X", (call2 "EQUAL" (call0 "FALSE") (call0 "TRUE"))) ∷ []))
    ∷ Ruled (Cut 6 5 (call2 "EQUAL" (call0 "FALSE") (call0 "TRUE"))) ∷ []

pub falsity_differs_from_truth : Derivable [] (clause falsity_differs_from_truth_clause)
unfolding symbols_of number_of
falsity_differs_from_truth = everywhere [] falsity_differs_from_truth_log falsity_differs_from_truth_clause refl tt refl

pub falsity_differs_from_truth_at : (h : History) → Derivable h (clause falsity_differs_from_truth_clause)
falsity_differs_from_truth_at h = grown falsity_differs_from_truth_clause falsity_differs_from_truth h

pub laws_of_truth_values_hold : AreDerivable laws_of_truth_values
laws_of_truth_values_hold h = (grown truth_is_no_falsity_clause truth_is_no_falsity h, (grown same_are_equal_clause same_are_equal h, (grown truth_differs_from_falsity_clause truth_differs_from_falsity h, (grown falsity_differs_from_truth_clause falsity_differs_from_truth h, tt))))
