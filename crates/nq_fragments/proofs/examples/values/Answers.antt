use Rattle.std.proofs.Common.{refl}
use Rattle.nq_logic.specs.Words.{numeral}
use Rattle.nq_logic.specs.Numerals.{number_of}
use Rattle.nq_logic.specs.Values.{is_tree_value}
use Rattle.nq_logic.specs.Sizes.{tree_depth}
use Rattle.nq_fragments.specs.Evaluation.{outcome_within}
use Rattle.nq_fragments.proofs.examples.values.Goals as goal

pub returns-clause-sums : goal.returns-clause-sums
unfolding numeral number_of is_tree_value tree_depth outcome_within
returns-clause-sums c = record { sum = refl; within = refl; false_sum = refl; less = refl }

pub returns-clause-definitions : goal.returns-clause-definitions
unfolding numeral number_of is_tree_value tree_depth outcome_within
returns-clause-definitions c = record { lemma = refl; value = refl; twice = refl; inner = refl }

pub returns-clause-recursion : goal.returns-clause-recursion
unfolding numeral number_of is_tree_value tree_depth outcome_within
returns-clause-recursion c = record { append = refl; member = refl; ordinal = refl }

pub returns-clause-shells : goal.returns-clause-shells
unfolding numeral number_of is_tree_value tree_depth outcome_within
returns-clause-shells c = record { minus_of_truth = refl; successor_of_nil = refl; minus_of_zero = refl; pair_of_list = refl; part = refl }

pub returns-clause-sides : goal.returns-clause-sides
unfolding numeral number_of is_tree_value tree_depth outcome_within
returns-clause-sides c = record { first = refl; second = refl; any_value = refl; test = refl; and = refl }

pub returns-clause-sizes : goal.returns-clause-sizes
unfolding numeral number_of is_tree_value tree_depth outcome_within
returns-clause-sizes c = record { number = refl; of_pair = refl; of_negative = refl; of_atom = refl; truth = refl; within = refl }
