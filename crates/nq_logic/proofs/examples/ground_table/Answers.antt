use Rattle.std.proofs.Common.{refl}
use Rattle.nq_logic.specs.Words.{numeral}
use Rattle.nq_logic.proofs.examples.ground_table.Goals as goal

pub returns : goal.returns
unfolding numeral
returns c = record { arities = refl; names = refl; definitions = refl; bodies = refl; measures = refl; recursive = refl; shells_as_events = refl; definitions_as_events = refl }
