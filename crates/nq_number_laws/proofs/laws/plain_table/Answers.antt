use Rattle.std.proofs.Common.{refl}
use Rattle.nq_logic.specs.Ground.{symbols_of}
use Rattle.nq_logic.specs.Numerals.{number_of}
use Rattle.nq_logic.specs.Sizes.{tree_depth}
use Rattle.nq_replay.specs.Replaying.{law_line, law_clause}
use Rattle.nq_number_laws.proofs.laws.plain_table.Goals as goal

pub returns-in-SumIsNumber : goal.returns-in-SumIsNumber
unfolding law_line law_clause symbols_of number_of tree_depth
returns-in-SumIsNumber c = refl

pub returns-in-QuotientIsNumber : goal.returns-in-QuotientIsNumber
unfolding law_line law_clause symbols_of number_of tree_depth
returns-in-QuotientIsNumber c = refl

pub returns-in-SizeIsNumber : goal.returns-in-SizeIsNumber
unfolding law_line law_clause symbols_of number_of tree_depth
returns-in-SizeIsNumber c = refl

pub returns-in-OneMoreIsNumber : goal.returns-in-OneMoreIsNumber
unfolding law_line law_clause symbols_of number_of tree_depth
returns-in-OneMoreIsNumber c = refl

pub returns-in-OneLessIsNumber : goal.returns-in-OneLessIsNumber
unfolding law_line law_clause symbols_of number_of tree_depth
returns-in-OneLessIsNumber c = refl

pub returns-in-FixIsNumber : goal.returns-in-FixIsNumber
unfolding law_line law_clause symbols_of number_of tree_depth
returns-in-FixIsNumber c = refl

pub returns-in-ZeroIsNumber : goal.returns-in-ZeroIsNumber
unfolding law_line law_clause symbols_of number_of tree_depth
returns-in-ZeroIsNumber c = refl

pub returns-in-PositiveIsNumber : goal.returns-in-PositiveIsNumber
unfolding law_line law_clause symbols_of number_of tree_depth
returns-in-PositiveIsNumber c = refl

pub returns-in-PositiveIsMore : goal.returns-in-PositiveIsMore
unfolding law_line law_clause symbols_of number_of tree_depth
returns-in-PositiveIsMore c = refl

pub returns-in-ZeroIsNoMore : goal.returns-in-ZeroIsNoMore
unfolding law_line law_clause symbols_of number_of tree_depth
returns-in-ZeroIsNoMore c = refl

pub returns-in-NumberIsMore : goal.returns-in-NumberIsMore
unfolding law_line law_clause symbols_of number_of tree_depth
returns-in-NumberIsMore c = refl

pub returns-in-NumberIsMoreTurned : goal.returns-in-NumberIsMoreTurned
unfolding law_line law_clause symbols_of number_of tree_depth
returns-in-NumberIsMoreTurned c = refl

pub returns-in-BelowIsLess : goal.returns-in-BelowIsLess
unfolding law_line law_clause symbols_of number_of tree_depth
returns-in-BelowIsLess c = refl

pub returns-in-LessIsBelow : goal.returns-in-LessIsBelow
unfolding law_line law_clause symbols_of number_of tree_depth
returns-in-LessIsBelow c = refl

pub returns-in-OneLessOfPositive : goal.returns-in-OneLessOfPositive
unfolding law_line law_clause symbols_of number_of tree_depth
returns-in-OneLessOfPositive c = refl

pub returns-in-OneLessOfZero : goal.returns-in-OneLessOfZero
unfolding law_line law_clause symbols_of number_of tree_depth
returns-in-OneLessOfZero c = refl

pub returns-in-NoFirst : goal.returns-in-NoFirst
unfolding law_line law_clause symbols_of number_of tree_depth
returns-in-NoFirst c = refl

pub returns-in-NoRest : goal.returns-in-NoRest
unfolding law_line law_clause symbols_of number_of tree_depth
returns-in-NoRest c = refl

pub returns-in-SizeOfPair : goal.returns-in-SizeOfPair
unfolding law_line law_clause symbols_of number_of tree_depth
returns-in-SizeOfPair c = refl

pub returns-in-ProductOfPositive : goal.returns-in-ProductOfPositive
unfolding law_line law_clause symbols_of number_of tree_depth
returns-in-ProductOfPositive c = refl

pub returns-in-TurnedTest : goal.returns-in-TurnedTest
unfolding law_line law_clause symbols_of number_of tree_depth
returns-in-TurnedTest c = refl

pub returns-in-NestedTest : goal.returns-in-NestedTest
unfolding law_line law_clause symbols_of number_of tree_depth
returns-in-NestedTest c = refl
