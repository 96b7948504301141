use Rattle.nq_kernel.proofs.GrowingLemmas.{WorkGrows-refl}
use Rattle.nq_legal.proofs.inducting.NoInductorInductor.induct_by.Goals as goal

pub returns-clause-grows : goal.returns-clause-grows
returns-clause-grows c = WorkGrows-refl c.args.history.now c.args.work.now c.requires.stands
