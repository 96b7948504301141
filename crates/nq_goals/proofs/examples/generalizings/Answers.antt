use Rattle.std.proofs.Common.{refl}
use Rattle.nq_logic.specs.Numerals.{number_of}
use Rattle.nq_logic.specs.Values.{is_tree_value}
use Rattle.nq_logic.specs.Words.{numeral}
use Rattle.nq_goals.proofs.examples.generalizings.Goals as goal

pub returns-clause-variables : goal.returns-clause-variables
returns-clause-variables c = record { first = refl; later = refl; none_used = refl; some_used = refl }

pub returns-clause-terms : goal.returns-clause-terms
unfolding number_of is_tree_value numeral
returns-clause-terms c = record { both_sides = refl; two_literals = refl; denied = refl; once = refl; one_literal = refl; kept = refl; forbidden = refl; outside_in = refl }
