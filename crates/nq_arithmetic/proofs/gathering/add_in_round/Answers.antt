use Rattle.nq_kernel.proofs.GrowingLemmas.{WorkGrows-refl}
use Rattle.nq_arithmetic.proofs.gathering.add_in_round.Goals as goal

pub returns-else-round-is_empty-clause-grows : goal.returns-else-round-is_empty-clause-grows
returns-else-round-is_empty-clause-grows c = WorkGrows-refl c.args.history.now c.args.work.now c.requires.stands
