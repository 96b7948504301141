use Rattle.nq_kernel.proofs.GrowingLemmas.{WorkGrows-refl}
use Rattle.nq_arithmetic.proofs.guards.shown.Goals as goal

pub returns-in-Goal-clause-grows : goal.returns-in-Goal-clause-grows
returns-in-Goal-clause-grows c = WorkGrows-refl c.args.history.now c.args.work.now c.requires.stands
