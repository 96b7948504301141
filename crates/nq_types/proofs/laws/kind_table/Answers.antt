use Rattle.std.proofs.Common.{refl}
use Rattle.nq_logic.specs.Ground.{symbols_of}
use Rattle.nq_logic.specs.Numerals.{number_of}
use Rattle.nq_logic.specs.Sizes.{tree_depth}
use Rattle.nq_replay.specs.Replaying.{law_line, law_clause}
use Rattle.nq_types.proofs.laws.kind_table.Goals as goal

pub returns-in-LargerIsNumber : goal.returns-in-LargerIsNumber
unfolding law_line law_clause symbols_of number_of tree_depth
returns-in-LargerIsNumber c = refl

pub returns-in-GutsAreNumber : goal.returns-in-GutsAreNumber
unfolding law_line law_clause symbols_of number_of tree_depth
returns-in-GutsAreNumber c = refl
