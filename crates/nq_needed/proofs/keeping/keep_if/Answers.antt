use Rattle.nq_kernel.proofs.GrowingLemmas.{WorkGrows-refl}
use Rattle.nq_needed.proofs.keeping.keep_if.Goals as goal

pub returns-else-marked : goal.returns-else-marked
returns-else-marked c = WorkGrows-refl c.args.history.now c.args.kept.now c.requires.stands
