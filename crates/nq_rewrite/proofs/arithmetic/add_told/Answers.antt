use Rattle.nq_kernel.proofs.GrowingLemmas.{WorkGrows-refl}
use Rattle.nq_rewrite.proofs.arithmetic.add_told.Goals as goal

pub returns-else-len-lt-TOLD_LIMIT-clause-grows : goal.returns-else-len-lt-TOLD_LIMIT-clause-grows
returns-else-len-lt-TOLD_LIMIT-clause-grows c = WorkGrows-refl c.args.history.now c.args.work.now c.requires.stands
