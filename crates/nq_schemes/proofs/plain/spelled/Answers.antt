use Rattle.nq_kernel.proofs.GrowingLemmas.{WorkGrows-refl}
use Rattle.nq_schemes.proofs.plain.spelled.Goals as goal

pub returns-then-eq-clause-grows : goal.returns-then-eq-clause-grows
returns-then-eq-clause-grows c = WorkGrows-refl c.args.history.now c.args.work.now c.requires.stands
