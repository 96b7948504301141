use Rattle.nq_first_goal.proofs.Judgements.{some_left}
use Rattle.nq_first_goal.proofs.judging.is_left.Goals as goal

pub returns-in-len1-up : goal.returns-in-len1-up
returns-in-len1-up c = some_left c.args.stuck c.args.found.now c.in-len1-up.len_at_least
