use Rattle.nq_kernel.proofs.GrowingLemmas.{WorkGrows-refl}
use Rattle.nq_schemes.proofs.gathering.governed_by.Goals as goal

pub returns-then-test-clause-grows : goal.returns-then-test-clause-grows
returns-then-test-clause-grows c = WorkGrows-refl c.args.history.now c.args.work.now c.requires.stands
