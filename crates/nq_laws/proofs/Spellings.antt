-- Laws of the tests under which a part is smaller, each in another spelling in the ground history, each by a log over earlier ones, and at terms of any history.
use Rattle.std.proofs.Common.{List, [], ◌∷◌, refl}
use Rattle.std.specs.Prelude.{codes}
use Rattle.nq_logic.specs.Terms.{Term, IsTerm}
use Rattle.nq_logic.specs.Words.{variable, call0, call1, call2}
use Rattle.nq_logic.specs.Histories.{History}
use Rattle.nq_logic.specs.Ground.{symbols_of}
use Rattle.nq_logic.specs.Numerals.{number_of}
use Rattle.nq_logic.specs.Formulas.{clause}
use Rattle.nq_logic.specs.Derivations.{Derivable}
use Rattle.nq_logic.proofs.Clauses.{instance_law}
use Rattle.nq_proof.specs.Rules.{Taut, Cut, Reflexive, Replace, Backwards}
use Rattle.nq_proof.specs.Logs.{LogLine, Ruled}
use Rattle.nq_proof.proofs.SoundLogs.{everywhere, grown}
use Rattle.nq_laws.specs.Laws.{AreDerivable}
use Rattle.nq_logic.proofs.Symbols.{equal_symbol, listp_symbol, nlistp_symbol, not_symbol, numberp_symbol, zero_symbol, zerop_symbol}
use Rattle.nq_laws.specs.Spellings.{list_by_no_atom_clause, equation_by_turned_clause, number_by_no_zero_clause, no_zero_by_test_clause, laws_of_spellings}
use Rattle.nq_laws.specs.Zero.{not_zero_is_number_clause, zero_is_zero_clause}
use Rattle.nq_laws.proofs.Zero.{not_zero_is_number, zero_is_zero}
use Rattle.nq_laws.specs.Definitions.{nlistp_opens_clause}
use Rattle.nq_laws.proofs.Definitions.{nlistp_opens}

-- (NOT (NOT (LISTP X))), (NOT (NOT (NLISTP X)))
abbrev list_by_no_atom_log : List LogLine
list_by_no_atom_log =
    Ruled (Taut ((call1 "NOT" (call1 "NOT" (call1 "LISTP" (variable "X")))) ∷ (call1 "NOT" (call1 "NOT" (call1 "NOT" (call1 "LISTP" (variable "X"))))) ∷ []))
    ∷ Ruled (Replace 2 2 (1 ∷ 1 ∷ []) (call1 "NLISTP" (variable "X")) Backwards)
    ∷ Ruled (Cut 1 3 (call2 "EQUAL" (call1 "NLISTP" (variable "X")) (call1 "NOT" (call1 "LISTP" (variable "X"))))) ∷ []

pub list_by_no_atom : Derivable [] (clause list_by_no_atom_clause)
unfolding symbols_of number_of
list_by_no_atom = everywhere (nlistp_opens_clause ∷ []) list_by_no_atom_log list_by_no_atom_clause refl (nlistp_opens, tt) refl

pub list_by_no_atom_clause_at : (h : History) (x : Term) → IsTerm (symbols_of h) x → Derivable h (clause ((call1 "NOT" (call1 "NOT" (call1 "LISTP" x))) ∷ (call1 "NOT" (call1 "NOT" (call1 "NLISTP" x))) ∷ []))
list_by_no_atom_clause_at h x ox =
    instance_law h ((codes "X", x) ∷ []) list_by_no_atom_clause (grown list_by_no_atom_clause list_by_no_atom h) ((not_symbol h, (not_symbol h, (listp_symbol h, ox))), ((not_symbol h, (not_symbol h, (nlistp_symbol h, ox))), tt))

-- (NOT (EQUAL X Y)), (NOT (NOT (EQUAL Y X)))
abbrev equation_by_turned_log : List LogLine
equation_by_turned_log =
    Ruled (Reflexive (variable "Y"))
    ∷ Ruled (Taut ((call1 "NOT" (call2 "EQUAL" (variable "Y") (variable "Y"))) ∷ (call1 "NOT" (call1 "NOT" (call2 "EQUAL" (variable "Y") (variable "Y")))) ∷ []))
    ∷ Ruled (Cut 1 2 (call2 "EQUAL" (variable "Y") (variable "Y")))
    ∷ Ruled (Replace 3 1 (1 ∷ 1 ∷ 2 ∷ []) (variable "X") Backwards)
    ∷ Ruled (Taut ((call1 "NOT" (call1 "NOT" (call1 "NOT" (call2 "EQUAL" (variable "Y") (variable "X"))))) ∷ (call1 "NOT" (call1 "NOT" (call2 "EQUAL" (variable "Y") (variable "X")))) ∷ []))
    ∷ Ruled (Cut 4 5 (call1 "NOT" (call1 "NOT" (call2 "EQUAL" (variable "Y") (variable "X"))))) ∷ []

pub equation_by_turned : Derivable [] (clause equation_by_turned_clause)
unfolding symbols_of number_of
equation_by_turned = everywhere [] equation_by_turned_log equation_by_turned_clause refl tt refl

pub equation_by_turned_clause_at : (h : History) (x y : Term) → IsTerm (symbols_of h) x → IsTerm (symbols_of h) y → Derivable h (clause ((call1 "NOT" (call2 "EQUAL" x y)) ∷ (call1 "NOT" (call1 "NOT" (call2 "EQUAL" y x))) ∷ []))
equation_by_turned_clause_at h x y ox oy =
    instance_law h ((codes "X", x) ∷ (codes "Y", y) ∷ []) equation_by_turned_clause (grown equation_by_turned_clause equation_by_turned h) ((not_symbol h, ((equal_symbol h, ox), oy)), ((not_symbol h, (not_symbol h, ((equal_symbol h, oy), ox))), tt))

-- (NOT (NOT (NUMBERP X))), (NOT (NOT (ZEROP X)))
abbrev number_by_no_zero_log : List LogLine
number_by_no_zero_log =
    Ruled (Taut ((call1 "NOT" (call1 "ZEROP" (variable "X"))) ∷ (call1 "NOT" (call1 "NOT" (call1 "ZEROP" (variable "X")))) ∷ []))
    ∷ Ruled (Cut 1 2 (call1 "ZEROP" (variable "X")))
    ∷ Ruled (Taut ((call1 "NOT" (call1 "NUMBERP" (variable "X"))) ∷ (call1 "NOT" (call1 "NOT" (call1 "NUMBERP" (variable "X")))) ∷ []))
    ∷ Ruled (Cut 3 4 (call1 "NUMBERP" (variable "X")))
    ∷ Ruled (Taut ((call1 "NOT" (call1 "NOT" (call1 "NOT" (call1 "ZEROP" (variable "X"))))) ∷ (call1 "NOT" (call1 "NOT" (call1 "ZEROP" (variable "X")))) ∷ []))
    ∷ Ruled (Cut 5 6 (call1 "NOT" (call1 "NOT" (call1 "ZEROP" (variable "X"))))) ∷ []

pub number_by_no_zero : Derivable [] (clause number_by_no_zero_clause)
unfolding symbols_of number_of
number_by_no_zero = everywhere (not_zero_is_number_clause ∷ []) number_by_no_zero_log number_by_no_zero_clause refl (not_zero_is_number, tt) refl

pub number_by_no_zero_clause_at : (h : History) (x : Term) → IsTerm (symbols_of h) x → Derivable h (clause ((call1 "NOT" (call1 "NOT" (call1 "NUMBERP" x))) ∷ (call1 "NOT" (call1 "NOT" (call1 "ZEROP" x))) ∷ []))
number_by_no_zero_clause_at h x ox =
    instance_law h ((codes "X", x) ∷ []) number_by_no_zero_clause (grown number_by_no_zero_clause number_by_no_zero h) ((not_symbol h, (not_symbol h, (numberp_symbol h, ox))), ((not_symbol h, (not_symbol h, (zerop_symbol h, ox))), tt))

-- (NOT (EQUAL X 0)), (NOT (NOT (ZEROP X)))
abbrev no_zero_by_test_log : List LogLine
no_zero_by_test_log =
    Ruled (Taut ((call1 "NOT" (call1 "NOT" (call1 "NOT" (call1 "ZEROP" (variable "X"))))) ∷ (call1 "NOT" (call1 "NOT" (call1 "ZEROP" (variable "X")))) ∷ []))
    ∷ Ruled (Taut ((call1 "NOT" (call1 "ZEROP" (call0 "ZERO"))) ∷ (call1 "NOT" (call1 "NOT" (call1 "ZEROP" (call0 "ZERO")))) ∷ []))
    ∷ Ruled (Cut 1 3 (call1 "ZEROP" (call0 "ZERO")))
    ∷ Ruled (Replace 4 1 (1 ∷ 1 ∷ 1 ∷ []) (variable "X") Backwards)
    ∷ Ruled (Cut 5 2 (call1 "NOT" (call1 "NOT" (call1 "ZEROP" (variable "X"))))) ∷ []

pub no_zero_by_test : Derivable [] (clause no_zero_by_test_clause)
unfolding symbols_of number_of
no_zero_by_test = everywhere (zero_is_zero_clause ∷ []) no_zero_by_test_log no_zero_by_test_clause refl (zero_is_zero, tt) refl

pub no_zero_by_test_clause_at : (h : History) (x : Term) → IsTerm (symbols_of h) x → Derivable h (clause ((call1 "NOT" (call2 "EQUAL" x (call0 "ZERO"))) ∷ (call1 "NOT" (call1 "NOT" (call1 "ZEROP" x))) ∷ []))
no_zero_by_test_clause_at h x ox =
    instance_law h ((codes "X", x) ∷ []) no_zero_by_test_clause (grown no_zero_by_test_clause no_zero_by_test h) ((not_symbol h, ((equal_symbol h, ox), (zero_symbol h))), ((not_symbol h, (not_symbol h, (zerop_symbol h, ox))), tt))

pub laws_of_spellings_hold : AreDerivable laws_of_spellings
laws_of_spellings_hold h = (grown list_by_no_atom_clause list_by_no_atom h, (grown equation_by_turned_clause equation_by_turned h, (grown number_by_no_zero_clause number_by_no_zero h, (grown no_zero_by_test_clause no_zero_by_test h, tt))))
