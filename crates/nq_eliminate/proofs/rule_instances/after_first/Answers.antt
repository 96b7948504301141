use Rattle.nq_eliminate.proofs.IdLemmas.{none_after, rest_all}
use Rattle.nq_eliminate.proofs.rule_instances.after_first.Goals as goal

pub returns-in-empty : goal.returns-in-empty
returns-in-empty c = none_after c.args.ids.now c.in-empty.len_below

pub returns-in-len1-up : goal.returns-in-len1-up
returns-in-len1-up c = rest_all c.args.ids.now
