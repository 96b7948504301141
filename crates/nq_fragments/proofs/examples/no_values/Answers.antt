use Rattle.std.proofs.Common.{refl}
use Rattle.nq_logic.specs.Words.{numeral}
use Rattle.nq_logic.specs.Numerals.{number_of}
use Rattle.nq_logic.specs.Values.{is_tree_value}
use Rattle.nq_logic.specs.Sizes.{tree_depth}
use Rattle.nq_fragments.specs.Evaluation.{outcome_within}
use Rattle.nq_fragments.proofs.examples.no_values.Goals as goal

pub returns-clause-declared : goal.returns-clause-declared
unfolding numeral number_of is_tree_value tree_depth outcome_within
returns-clause-declared c = record { declared = refl; leftmost = refl; argument = refl; users_base = refl; users_shell = refl; users_recognizer = refl }

pub returns-clause-fuel : goal.returns-clause-fuel
unfolding numeral number_of is_tree_value tree_depth outcome_within
returns-clause-fuel c = record {
  endless_calls = refl;
  last_call = refl;
  one_too_many = refl;
  row_after_all = refl;
  side_by_side = refl;
  blocked_first = refl;
  fuel_first = refl;
}

pub returns-clause-deepest : goal.returns-clause-deepest
unfolding number_of is_tree_value tree_depth outcome_within
returns-clause-deepest c = refl

pub returns-clause-deeper : goal.returns-clause-deeper
unfolding number_of is_tree_value tree_depth outcome_within
returns-clause-deeper c = refl
