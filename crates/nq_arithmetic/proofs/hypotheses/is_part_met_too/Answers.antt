use Rattle.nq_kernel.proofs.GrowingLemmas.{WorkGrows-refl}
use Rattle.nq_arithmetic.proofs.hypotheses.is_part_met_too.Goals as goal

pub returns-else-before-clause-grows : goal.returns-else-before-clause-grows
returns-else-before-clause-grows c = WorkGrows-refl c.args.history.now c.args.work.now c.requires.stands
