use Rattle.std.proofs.Common.{refl}
use Rattle.nq_logic.specs.Words.{numeral}
use Rattle.nq_goals.proofs.InductionCases.{goes_by_rest, goes_not_by_first}
use Rattle.nq_goals.proofs.examples.inductions.Goals as goal

pub returns-clause-calls : goal.returns-clause-calls
unfolding numeral
returns-clause-calls c = record { both = refl; same = refl; no_variable = refl; not_recursive = refl; hinted = refl; hinted_first = refl; later = refl; later_calls = refl; within = refl }

pub returns-clause-schemes : goal.returns-clause-schemes
returns-clause-schemes c = record { one_literal = refl; several = refl; all = refl; goes = goes_by_rest; goes_not = goes_not_by_first; goals = refl; step = refl }
