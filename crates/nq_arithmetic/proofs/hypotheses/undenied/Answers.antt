use Rattle.nq_kernel.proofs.GrowingLemmas.{WorkGrows-refl}
use Rattle.nq_arithmetic.proofs.hypotheses.undenied.Goals as goal

pub returns-then-claim-clause-grows : goal.returns-then-claim-clause-grows
returns-then-claim-clause-grows c = WorkGrows-refl c.args.history.now c.args.work.now c.requires.stands
