use Rattle.nq_kernel.proofs.GrowingLemmas.{WorkGrows-refl}
use Rattle.nq_reduce.proofs.distinct.by_distinct_sides.Goals as goal

pub returns-else-differ-2-clause-grows : goal.returns-else-differ-2-clause-grows
returns-else-differ-2-clause-grows c = WorkGrows-refl c.args.history.now c.args.work.now c.requires.can.stands
