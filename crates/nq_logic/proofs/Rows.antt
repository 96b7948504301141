-- Rows of the ground axioms, as clauses.
use Rattle.std.proofs.Common.{[], ◌∷◌, refl}
use Rattle.nq_logic.specs.Terms.{Each}
use Rattle.nq_logic.specs.Words.{true_term, false_term, if_term, equal_term, not_term}
use Rattle.nq_logic.specs.Formulas.{Equation, holds, IsFormula}
use Rattle.nq_logic.specs.Ground.{symbols_of, x_term, y_term, z_term}
use Rattle.nq_logic.specs.Derivations.{equal_of_same, equal_of_different, size_is_number, one_less_is_less}
use Rattle.nq_logic.specs.Laws.{TruthHolds, FalsityDoesNot, SizeIsNumber, OneLessIsLess, FalsityIsOnlyFalsity, EqualIsTruthValue, IfOfFalsity, IfOfTruth}
use Rattle.nq_logic.proofs.Patterns.{Part, No, Any, follows1, follows2, follows3}
use Rattle.nq_logic.proofs.Equality.{If, falsity_over, truth_over, if_over, if_first, if_second, axiom_here, truth_is_no_falsity, same}
use Rattle.nq_logic.proofs.Symbols.{numberp_symbol, count_symbol, zerop_symbol, lessp_symbol, sub1_symbol}
use Rattle.nq_logic.proofs.Values.{not_over, not_holds}
use Rattle.nq_logic.proofs.Replacements.{equal_over, equal_holds}

pub truth_law : TruthHolds
truth_law h = truth_is_no_falsity h

pub no_falsity_law : FalsityDoesNot
no_falsity_law h =
    let f = falsity_over h in
    let on = not_over h false_term f in
    follows2 h (Equation false_term false_term ∷ holds (not_term false_term) ∷ []) ((f, f), ((on, f), tt)) (Part 0) (If (No (No (Part 0))) (Part 1)) (Part 1) refl
    (same h false_term f) (not_holds h false_term f)

pub size_law : SizeIsNumber
size_law h = axiom_here h _ ((numberp_symbol h, (count_symbol h, tt)), falsity_over h) size_is_number

pub one_less_law : OneLessIsLess
one_less_law h =
    let f = falsity_over h in
    axiom_here h _ (((zerop_symbol h, tt), f), (((lessp_symbol h, (sub1_symbol h, tt)), tt), f)) one_less_is_less

pub falsity_law : FalsityIsOnlyFalsity
falsity_law h =
    let f = falsity_over h in
    let o = equal_over h x_term false_term tt f in
    follows1 h (Equation x_term false_term ∷ holds (equal_term x_term false_term) ∷ []) ((tt, f), ((o, f), tt)) (If (Part 0) (Part 1)) (Any (No (Part 0)) (Part 1)) refl (equal_holds h x_term false_term tt f)

pub equal_law : EqualIsTruthValue
equal_law h =
    let f = falsity_over h in
    let t = truth_over h in
    let e = equal_term x_term y_term in
    let o = equal_over h x_term y_term tt tt in
    let at_true = equal_over h e true_term o t in
    let at_false = equal_over h e false_term o f in
    let fs = Equation x_term y_term ∷ Equation e true_term ∷ Equation e false_term ∷ holds (equal_term e true_term) ∷ holds (equal_term e false_term) ∷ [] in
    let overs : Each (IsFormula (symbols_of h)) fs = ((tt, tt), ((o, t), ((o, f), ((at_true, f), ((at_false, f), tt))))) in
    let same_value = axiom_here h _ ((tt, tt), (o, t)) equal_of_same in
    let other_value = axiom_here h _ ((tt, tt), (o, f)) equal_of_different in
    let one = follows2 h fs overs (If (Part 0) (Part 1)) (If (Part 1) (Part 3)) (If (Part 0) (Part 3)) refl same_value (equal_holds h e true_term o t) in
    let two = follows2 h fs overs (If (No (Part 0)) (Part 2)) (If (Part 2) (Part 4)) (If (No (Part 0)) (Part 4)) refl other_value (equal_holds h e false_term o f) in
    follows2 h fs overs (If (Part 0) (Part 3)) (If (No (Part 0)) (Part 4)) (Any (Part 3) (Part 4)) refl one two

pub if_false_law : IfOfFalsity
if_false_law h =
    let f = falsity_over h in
    let c = if_term x_term y_term z_term in
    let oc = if_over h x_term y_term z_term tt tt tt in
    let oe = equal_over h c z_term oc tt in
    follows2 h (Equation x_term false_term ∷ Equation c z_term ∷ holds (equal_term c z_term) ∷ []) ((tt, f), ((oc, tt), ((oe, f), tt))) (If (Part 0) (Part 1)) (If (Part 1) (Part 2)) (Any (No (Part 0)) (Part 2)) refl
    (if_second h x_term y_term z_term tt tt tt) (equal_holds h c z_term oc tt)

pub if_true_law : IfOfTruth
if_true_law h =
    let f = falsity_over h in
    let c = if_term x_term y_term z_term in
    let oc = if_over h x_term y_term z_term tt tt tt in
    let oe = equal_over h c y_term oc tt in
    let on = not_over h x_term tt in
    follows3 h (Equation x_term false_term ∷ Equation c y_term ∷ holds (equal_term c y_term) ∷ holds (not_term x_term) ∷ []) ((tt, f), ((oc, tt), ((oe, f), ((on, f), tt))))
    (If (No (Part 0)) (Part 1)) (If (Part 1) (Part 2)) (If (No (No (Part 0))) (Part 3)) (Any (Part 3) (Part 2)) refl
    (if_first h x_term y_term z_term tt tt tt) (equal_holds h c y_term oc tt) (not_holds h x_term tt)
