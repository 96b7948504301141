use Rattle.nq_bank.specs.Content.{terms_at}
use Rattle.nq_kernel.proofs.GrowingLemmas.{WorkGrows-trans}
use Rattle.nq_eliminate.specs.Choosing.{chosen_at}
use Rattle.nq_eliminate.proofs.rule_instances.rule_instance.Goals as goal

pub instance_by-requires-clause-filling : goal.instance_by-requires-clause-filling
instance_by-requires-clause-filling c = record { chosen = chosen_at c.args.work.now.bank (terms_at c.args.work.now.bank c.args.goal.now) c.args.c; is = c.in_ok-p.ensures.filling }

pub returns-clause-instance : goal.returns-clause-instance
returns-clause-instance c = c.instance_by.ensures.instance (chosen_at c.args.work.now.bank (terms_at c.args.work.now.bank c.args.goal.now) c.args.c) c.in_ok-p.ensures.filling

pub returns-clause-grows : goal.returns-clause-grows
returns-clause-grows c = WorkGrows-trans c.args.history.now c.args.work.now c.prepare_filling.new.work c.instance_by.new.work c.prepare_filling.ensures.grows c.instance_by.ensures.grows
