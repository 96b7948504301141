-- The rows of the table of shell axioms have one clause each, and the clauses of the ground shells are those written out.
use Rattle.std.proofs.Common.{◌≡◌, [], ◌∷◌, refl, ap, ap₂}
use Rattle.std.specs.Prelude.{Option, Some, None}
use Rattle.nq_logic.specs.Terms.{Function, Applied}
use Rattle.nq_logic.specs.Words.{call1, equal_term, not_term, zero_term}
use Rattle.nq_logic.specs.Shells.{made, made_with, part_variable, recognizes, restricted, whole, recognizer_is_truth_value, made_is_recognized, base_is_recognized, made_is_no_base, remade_is_same, part_of_made, wrong_part_of_made, part_of_other, part_of_base, wrong_part, truth_is_none, falsity_is_none, kinds_differ, size_of_made, size_of_base}
use Rattle.nq_logic.specs.ShellTable.{ShellRows, OneClauseForRow, BaseRowsNeedBase}

pub shell_rows_law : ShellRows
shell_rows_law = record {
  of_numbers = (recognizer_is_truth_value, (made_is_recognized, (base_is_recognized _ refl, (made_is_no_base _ refl, (remade_is_same, (part_of_made 0 _ refl, (wrong_part_of_made 0 _ refl, (part_of_other 0 _ refl, (part_of_base 0 _ _ refl refl, (wrong_part 0 _ refl, (truth_is_none, (falsity_is_none, (size_of_made, (size_of_base _ refl, tt))))))))))))));
  of_pairs = (recognizer_is_truth_value, (made_is_recognized, (remade_is_same, (part_of_made 0 _ refl, (part_of_made 1 _ refl, (wrong_part_of_made 0 _ refl, (wrong_part_of_made 1 _ refl, (part_of_other 0 _ refl, (part_of_other 1 _ refl, (wrong_part 0 _ refl, (wrong_part 1 _ refl, (truth_is_none, (falsity_is_none, (kinds_differ 0 _ refl, (size_of_made, tt)))))))))))))));
  of_atoms = (recognizer_is_truth_value, (made_is_recognized, (remade_is_same, (part_of_made 0 _ refl, (wrong_part_of_made 0 _ refl, (part_of_other 0 _ refl, (wrong_part 0 _ refl, (truth_is_none, (falsity_is_none, (kinds_differ 0 _ refl, (kinds_differ 1 _ refl, (size_of_made, tt))))))))))));
  of_negatives = (recognizer_is_truth_value, (made_is_recognized, (remade_is_same, (part_of_made 0 _ refl, (wrong_part_of_made 0 _ refl, (part_of_other 0 _ refl, (wrong_part 0 _ refl, (truth_is_none, (falsity_is_none, (kinds_differ 0 _ refl, (kinds_differ 1 _ refl, (kinds_differ 2 _ refl, (size_of_made, tt)))))))))))));
  of_stacks = (recognizer_is_truth_value, (made_is_recognized, (base_is_recognized _ refl, (made_is_no_base _ refl, (remade_is_same, (part_of_made 0 _ refl, (part_of_made 1 _ refl, (wrong_part_of_made 0 _ refl, (wrong_part_of_made 1 _ refl, (part_of_other 0 _ refl, (part_of_other 1 _ refl, (part_of_base 0 _ _ refl refl, (part_of_base 1 _ _ refl refl, (wrong_part 0 _ refl, (wrong_part 1 _ refl, (truth_is_none, (falsity_is_none, (kinds_differ 0 _ refl, (kinds_differ 1 _ refl, (kinds_differ 2 _ refl, (kinds_differ 3 _ refl, (size_of_made, (size_of_base _ refl, tt)))))))))))))))))))))));
  of_marks = (made_is_recognized, (remade_is_same, (size_of_made, tt)));
  of_nothings = (part_of_made 0 _ refl, (wrong_part 0 _ refl, tt));
}

no_base : {X : Type 0} (o : Option X) (x : X) → o ≡ None → o ≡ Some x → ⊥
no_base o x e f = cc

pub base_rows_need_base_law : BaseRowsNeedBase
base_rows_need_base_law earlier s row i c none recognizer_is_truth_value = refl
base_rows_need_base_law earlier s row i c none made_is_recognized = refl
base_rows_need_base_law earlier s row i c none (base_is_recognized b e) = absurd (no_base s.base b none e)
base_rows_need_base_law earlier s row i c none (made_is_no_base b e) = absurd (no_base s.base b none e)
base_rows_need_base_law earlier s row i c none remade_is_same = refl
base_rows_need_base_law earlier s row i c none (part_of_made k part e) = refl
base_rows_need_base_law earlier s row i c none (wrong_part_of_made k part e) = refl
base_rows_need_base_law earlier s row i c none (part_of_other k part e) = refl
base_rows_need_base_law earlier s row i c none (part_of_base k part b e f) = absurd (no_base s.base b none f)
base_rows_need_base_law earlier s row i c none (wrong_part k part e) = refl
base_rows_need_base_law earlier s row i c none truth_is_none = refl
base_rows_need_base_law earlier s row i c none falsity_is_none = refl
base_rows_need_base_law earlier s row i c none (kinds_differ j other e) = refl
base_rows_need_base_law earlier s row i c none size_of_made = refl
base_rows_need_base_law earlier s row i c none (size_of_base b e) = absurd (no_base s.base b none e)

some_same : {X : Type 0} {o : Option X} (x y : X) → o ≡ Some x → o ≡ Some y → x ≡ y
some_same x y e f = cc

pub one_clause_for_row_law : OneClauseForRow
one_clause_for_row_law earlier s row i c d recognizer_is_truth_value recognizer_is_truth_value = refl
one_clause_for_row_law earlier s row i c d made_is_recognized made_is_recognized = refl
one_clause_for_row_law earlier s row i c d (base_is_recognized b e) (base_is_recognized b' f) = ap (λ x. recognizes s (Function x) ∷ []) (some_same b b' e f)
one_clause_for_row_law earlier s row i c d (made_is_no_base b e) (made_is_no_base b' f) = ap (λ x. not_term (equal_term (made s) (Function x)) ∷ []) (some_same b b' e f)
one_clause_for_row_law earlier s row i c d remade_is_same remade_is_same = refl
one_clause_for_row_law earlier s row i c d (part_of_made k part e) (part_of_made k' part' f) =
    ap (λ p. not_term (restricted p.restriction (part_variable k)) ∷ equal_term (Applied (Function p.accessor) (made s)) (part_variable k) ∷ []) (some_same part part' e f)
one_clause_for_row_law earlier s row i c d (wrong_part_of_made k part e) (wrong_part_of_made k' part' f) =
    ap (λ p. restricted p.restriction (part_variable k) ∷ equal_term (Applied (Function p.accessor) (made s)) (Function p.default) ∷ []) (some_same part part' e f)
one_clause_for_row_law earlier s row i c d (part_of_other k part e) (part_of_other k' part' f) =
    ap (λ p. recognizes s whole ∷ equal_term (Applied (Function p.accessor) whole) (Function p.default) ∷ []) (some_same part part' e f)
one_clause_for_row_law earlier s row i c d (part_of_base k part b e g) (part_of_base k' part' b' e' g') =
    ap₂ (λ p x. equal_term (Applied (Function p.accessor) (Function x)) (Function p.default) ∷ []) (some_same part part' e e') (some_same b b' g g')
one_clause_for_row_law earlier s row i c d (wrong_part k part e) (wrong_part k' part' f) =
    ap (λ p. restricted p.restriction (part_variable k) ∷ equal_term (made s) (made_with s k (Function p.default)) ∷ []) (some_same part part' e f)
one_clause_for_row_law earlier s row i c d truth_is_none truth_is_none = refl
one_clause_for_row_law earlier s row i c d falsity_is_none falsity_is_none = refl
one_clause_for_row_law earlier s row i c d (kinds_differ j other e) (kinds_differ j' other' f) =
    ap (λ o. not_term (recognizes s whole) ∷ not_term (recognizes o whole) ∷ []) (some_same other other' e f)
one_clause_for_row_law earlier s row i c d size_of_made size_of_made = refl
one_clause_for_row_law earlier s row i c d (size_of_base b e) (size_of_base b' f) = ap (λ x. equal_term (call1 "COUNT" (Function x)) zero_term ∷ []) (some_same b b' e f)
