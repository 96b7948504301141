use Rattle.std.proofs.Common.{refl}
use Rattle.nq_logic.specs.Sizes.{tree_depth}
use Rattle.nq_logic.specs.Numerals.{number_of}
use Rattle.nq_logic.specs.Words.{numeral}
use Rattle.nq_history.proofs.ground_entries.ground_entries.Goals as goal

pub entries_of-requires : goal.entries_of-requires
unfolding tree_depth number_of numeral
entries_of-requires c = record { rows = refl }
