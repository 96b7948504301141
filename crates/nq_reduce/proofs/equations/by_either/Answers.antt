use Rattle.nq_kernel.proofs.GrowingLemmas.{WorkGrows-refl}
use Rattle.nq_reduce.proofs.equations.by_either.Goals as goal

pub returns-else-is_same-clause-grows : goal.returns-else-is_same-clause-grows
returns-else-is_same-clause-grows c = WorkGrows-refl c.args.history.now c.args.work.now c.requires.can.stands
