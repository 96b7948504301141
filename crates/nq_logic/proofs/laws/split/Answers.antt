use Rattle.nq_logic.proofs.Branches.{split_first_law, split_second_law}
use Rattle.nq_logic.proofs.laws.split.Goals as goal

pub returns-clause-first : goal.returns-clause-first
returns-clause-first c = split_first_law

pub returns-clause-second : goal.returns-clause-second
returns-clause-second c = split_second_law
