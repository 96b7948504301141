use Rattle.nq_bank.specs.Content.{terms_at}
use Rattle.nq_instances.proofs.LeftLemmas.{left_in}
use Rattle.nq_reduce.proofs.HeldLemmas.{held_fact}
use Rattle.nq_reduce.proofs.settling.instance_of_fact.Goals as goal

pub matched_fact-requires-clause-pattern : goal.matched_fact-requires-clause-pattern
matched_fact-requires-clause-pattern c = left_in c.args.history.now c.args.work.now c.args.fact.term c.left_side-pattern.result c.requires.fact.term c.left_side-pattern.ensures.stands c.left_side-pattern.ensures.is

pub returns-clause-held : goal.returns-clause-held
returns-clause-held c = held_fact c.args.history.now c.matched_fact.new.work (terms_at c.args.work.now.bank c.args.assumed.now) c.matched_fact.result c.matched_fact.ensures.fact
