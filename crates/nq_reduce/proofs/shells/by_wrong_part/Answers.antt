use Rattle.nq_kernel.proofs.GrowingLemmas.{WorkGrows-refl}
use Rattle.nq_reduce.proofs.shells.by_wrong_part.Goals as goal

pub returns-else-trial-eq-PART_OF_MADE-clause-grows : goal.returns-else-trial-eq-PART_OF_MADE-clause-grows
returns-else-trial-eq-PART_OF_MADE-clause-grows c = WorkGrows-refl c.args.history.now c.args.work.now c.requires.can.stands
