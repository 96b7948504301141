use Rattle.nq_kernel.proofs.GrowingLemmas.{WorkGrows-refl}
use Rattle.nq_reduce.proofs.made.made_by_fact.Goals as goal

pub made_instance-requires-clause-pattern : goal.made_instance-requires-clause-pattern
made_instance-requires-clause-pattern c = c.in-Some.ensures.argument

pub returns-in-None-clause-grows : goal.returns-in-None-clause-grows
returns-in-None-clause-grows c = WorkGrows-refl c.args.history.now c.args.work.now c.requires.can.stands
