use Rattle.nq_kernel.proofs.GrowingLemmas.{WorkGrows-refl}
use Rattle.nq_reduce.proofs.irreflexive.by_irreflexivity.Goals as goal

pub returns-else-says_less_than_itself-clause-grows : goal.returns-else-says_less_than_itself-clause-grows
returns-else-says_less_than_itself-clause-grows c = WorkGrows-refl c.args.history.now c.args.work.now c.requires.can.stands
