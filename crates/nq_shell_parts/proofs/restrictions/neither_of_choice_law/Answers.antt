use Rattle.std.proofs.Common.{refl}
use Rattle.nq_logic.specs.Ground.{symbols_of}
use Rattle.nq_logic.specs.Numerals.{number_of}
use Rattle.nq_logic.specs.Sizes.{tree_depth}
use Rattle.nq_replay.specs.Replaying.{law_line, law_clause}
use Rattle.nq_shell_parts.proofs.restrictions.neither_of_choice_law.Goals as goal

pub returns : goal.returns
unfolding law_line law_clause symbols_of number_of tree_depth
returns c = refl
