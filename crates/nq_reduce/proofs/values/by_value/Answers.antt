use Rattle.nq_kernel.proofs.GrowingLemmas.{WorkGrows-refl}
use Rattle.nq_reduce.proofs.values.by_value.Goals as goal

pub returns-else-has_value-clause-grows : goal.returns-else-has_value-clause-grows
returns-else-has_value-clause-grows c = WorkGrows-refl c.args.history.now c.args.work.now c.requires.can.stands
