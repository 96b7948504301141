use Rattle.nq_kernel.proofs.GrowingLemmas.{WorkGrows-refl}
use Rattle.nq_rewrite.proofs.kinds.one_call.Goals as goal

pub returns-else-takes_one-clause-grows : goal.returns-else-takes_one-clause-grows
returns-else-takes_one-clause-grows c = WorkGrows-refl c.args.history.now c.args.work.now c.requires.stands
