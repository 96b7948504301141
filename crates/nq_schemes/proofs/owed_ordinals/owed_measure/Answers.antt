use Rattle.nq_kernel.proofs.GrowingLemmas.{WorkGrows-refl}
use Rattle.nq_schemes.proofs.owed_ordinals.owed_measure.Goals as goal

pub returns-else-is_own-clause-grows : goal.returns-else-is_own-clause-grows
returns-else-is_own-clause-grows c = WorkGrows-refl c.args.history.now c.args.work.now c.requires.stands
