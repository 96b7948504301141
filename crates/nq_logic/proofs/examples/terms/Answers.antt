use Rattle.std.proofs.Common.{refl}
use Rattle.nq_logic.specs.Words.{numeral}
use Rattle.nq_logic.specs.Numerals.{number_of}
use Rattle.nq_logic.specs.Values.{is_tree_value}
use Rattle.nq_logic.specs.Sizes.{tree_depth, tree_size}
use Rattle.nq_logic.proofs.examples.terms.Goals as goal

pub returns-clause-terms : goal.returns-clause-terms
returns-clause-terms c = record { right = refl; wrong = refl }

pub returns-clause-literals : goal.returns-clause-literals
unfolding numeral
returns-clause-literals c = record { number = refl; nothing = refl; atom = refl; truth = refl; falsity = refl }

pub returns-clause-substitutions : goal.returns-clause-substitutions
returns-clause-substitutions c = record { exchanged = refl; others = refl }

pub returns-clause-formulas : goal.returns-clause-formulas
returns-clause-formulas c = record { literal = refl; literals = refl; empty = refl; both = refl; all = refl; chain = refl }

pub returns-clause-numerals : goal.returns-clause-numerals
unfolding number_of is_tree_value
returns-clause-numerals c = record { three = refl; other = refl; last = refl; past = refl; call = λ t e. rw e refl }

pub returns-clause-values : goal.returns-clause-values
unfolding numeral number_of is_tree_value
returns-clause-values c = record { values = refl; others = refl }

pub returns-clause-sizes : goal.returns-clause-sizes
unfolding numeral number_of tree_depth tree_size
returns-clause-sizes c = record { sizes = refl }
