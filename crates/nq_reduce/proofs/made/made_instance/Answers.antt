use Rattle.nq_bank.specs.Content.{terms_at}
use Rattle.nq_reduce.proofs.HeldLemmas.{held_fact}
use Rattle.nq_reduce.proofs.made.made_instance.Goals as goal

pub returns-clause-held : goal.returns-clause-held
returns-clause-held c = held_fact c.args.history.now c.matched_fact.new.work (terms_at c.args.work.now.bank c.args.assumed.now) c.matched_fact.result c.matched_fact.ensures.fact
