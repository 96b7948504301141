use Rattle.std.proofs.Common.{refl}
use Rattle.nq_logic.specs.Ground.{symbols_of}
use Rattle.nq_logic.specs.Numerals.{number_of}
use Rattle.nq_logic.specs.Sizes.{tree_depth}
use Rattle.nq_replay.specs.Replaying.{law_line, law_clause}
use Rattle.nq_number_laws.proofs.laws.inductive_table.Goals as goal

pub returns-in-ProductIsNumber : goal.returns-in-ProductIsNumber
unfolding law_line law_clause symbols_of number_of tree_depth
returns-in-ProductIsNumber c = refl

pub returns-in-DifferenceIsNumber : goal.returns-in-DifferenceIsNumber
unfolding law_line law_clause symbols_of number_of tree_depth
returns-in-DifferenceIsNumber c = refl

pub returns-in-NumbersCompare : goal.returns-in-NumbersCompare
unfolding law_line law_clause symbols_of number_of tree_depth
returns-in-NumbersCompare c = refl

pub returns-in-LessIsTruth : goal.returns-in-LessIsTruth
unfolding law_line law_clause symbols_of number_of tree_depth
returns-in-LessIsTruth c = refl

pub returns-in-FixIsEnough : goal.returns-in-FixIsEnough
unfolding law_line law_clause symbols_of number_of tree_depth
returns-in-FixIsEnough c = refl

pub returns-in-FixIsNoMore : goal.returns-in-FixIsNoMore
unfolding law_line law_clause symbols_of number_of tree_depth
returns-in-FixIsNoMore c = refl

pub returns-in-OneLessIsNoMore : goal.returns-in-OneLessIsNoMore
unfolding law_line law_clause symbols_of number_of tree_depth
returns-in-OneLessIsNoMore c = refl

pub returns-in-OneLessIsEnough : goal.returns-in-OneLessIsEnough
unfolding law_line law_clause symbols_of number_of tree_depth
returns-in-OneLessIsEnough c = refl

pub returns-in-DifferenceIsNoMore : goal.returns-in-DifferenceIsNoMore
unfolding law_line law_clause symbols_of number_of tree_depth
returns-in-DifferenceIsNoMore c = refl

pub returns-in-DifferenceIsEnough : goal.returns-in-DifferenceIsEnough
unfolding law_line law_clause symbols_of number_of tree_depth
returns-in-DifferenceIsEnough c = refl

pub returns-in-DifferenceIsExact : goal.returns-in-DifferenceIsExact
unfolding law_line law_clause symbols_of number_of tree_depth
returns-in-DifferenceIsExact c = refl

pub returns-in-DifferenceIsNone : goal.returns-in-DifferenceIsNone
unfolding law_line law_clause symbols_of number_of tree_depth
returns-in-DifferenceIsNone c = refl

pub returns-in-SizeOfNumber : goal.returns-in-SizeOfNumber
unfolding law_line law_clause symbols_of number_of tree_depth
returns-in-SizeOfNumber c = refl

pub returns-in-SizeOfPositive : goal.returns-in-SizeOfPositive
unfolding law_line law_clause symbols_of number_of tree_depth
returns-in-SizeOfPositive c = refl
