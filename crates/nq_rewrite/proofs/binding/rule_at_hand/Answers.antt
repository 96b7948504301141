use Rattle.nq_bank.specs.Content.{terms_at}
use Rattle.nq_reduce.proofs.HeldLemmas.{held_fact}
use Rattle.nq_rewrite.proofs.binding.rule_at_hand.Goals as goal

pub returns-clause-held : goal.returns-clause-held
returns-clause-held c = held_fact c.args.history.now c.instance_at_hand.new.work (terms_at c.args.work.now.bank c.args.assumed.now) c.instance_at_hand.result c.instance_at_hand.ensures.fact
