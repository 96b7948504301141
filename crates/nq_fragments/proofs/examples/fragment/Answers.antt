-- A value is computed, and there is no other.
use Rattle.std.proofs.Common.{◌≡◌, Bool, true, false, List, [], ◌∷◌, ◌++◌, Some, refl, sym, ap, ◌∙◌, arith}
use Rattle.nq_logic.specs.Terms.{Name, Term}
use Rattle.nq_logic.specs.Words.{true_term, false_term, equal_term, call1, call2, numeral}
use Rattle.nq_logic.specs.Numerals.{number_of}
use Rattle.nq_logic.specs.Values.{is_tree_value}
use Rattle.nq_logic.specs.Sizes.{tree_depth}
use Rattle.nq_logic.specs.RuleShapes.{variables_of}
use Rattle.nq_proof.specs.Values.{is_true}
use Rattle.nq_fragments.specs.Evaluation.{outcome_within, HasGroundValue}
use Rattle.nq_fragments.specs.EvaluationExamples.{doubling}
use Rattle.nq_fragments.proofs.examples.fragment.Goals as goal

truth_is_other : true_term ≡ false_term → ⊥
truth_is_other e = let same : true ≡ false = ap is_true e in absurd (cc)

double : HasGroundValue doubling (equal_term (call1 "DOUBLE" (numeral 2)) (numeral 4)) true_term
unfolding numeral number_of is_tree_value tree_depth outcome_within
double = record { ground = refl; shallow = omega arith; value = refl }

sum_is_false : HasGroundValue [] (equal_term (call2 "PLUS" (numeral 2) (numeral 2)) (numeral 5)) false_term
unfolding numeral number_of is_tree_value tree_depth outcome_within
sum_is_false = record { ground = refl; shallow = omega arith; value = refl }

is_none : List Name → Bool
is_none [] = true
is_none (x ∷ xs) = false

pub returns : goal.returns
unfolding is_none
returns c =
    record {
      double = record { value = true_term; has = double; is_true = truth_is_other };
      false_sum = sum_is_false;
      no_false_sum = λ k. k.is_true (let both : Some k.value ≡ Some false_term = sym k.has.value ∙ sum_is_false.value in cc);
      no_variable = λ k. let none : false ≡ true = ap is_none k.has.ground in absurd (cc);
    }
