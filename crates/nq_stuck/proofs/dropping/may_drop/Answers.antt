use Rattle.nq_stuck.proofs.DropLemmas.{one_stays}
use Rattle.nq_stuck.proofs.dropping.may_drop.Goals as goal

pub returns-in-len1 : goal.returns-in-len1
returns-in-len1 c = λ bank h e. one_stays bank h c.args.goal.now c.in-len1.len_at_least c.in-len1.len_below
