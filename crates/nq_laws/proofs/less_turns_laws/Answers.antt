use Rattle.nq_laws.proofs.LessTurns.{laws_of_less_turns_hold}
use Rattle.nq_laws.proofs.less_turns_laws.Goals as goal

pub returns : goal.returns
returns c = laws_of_less_turns_hold
