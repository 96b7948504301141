use Rattle.std.proofs.Common.{refl}
use Rattle.nq_logic.specs.Ground.{symbols_of}
use Rattle.nq_logic.specs.Numerals.{number_of}
use Rattle.nq_logic.specs.Sizes.{tree_depth}
use Rattle.nq_replay.specs.Replaying.{law_line, law_clause}
use Rattle.nq_division_laws.proofs.laws.division_table.Goals as goal

pub returns-in-RemainderIsNumber : goal.returns-in-RemainderIsNumber
unfolding law_line law_clause symbols_of number_of tree_depth
returns-in-RemainderIsNumber c = refl

pub returns-in-RemainderIsLess : goal.returns-in-RemainderIsLess
unfolding law_line law_clause symbols_of number_of tree_depth
returns-in-RemainderIsLess c = refl

pub returns-in-RemainderIsNoMore : goal.returns-in-RemainderIsNoMore
unfolding law_line law_clause symbols_of number_of tree_depth
returns-in-RemainderIsNoMore c = refl
