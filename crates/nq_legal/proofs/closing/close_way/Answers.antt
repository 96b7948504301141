use Rattle.nq_kernel.proofs.GrowingLemmas.{WorkGrows-refl}
use Rattle.nq_legal.proofs.closing.close_way.Goals as goal

pub returns-in-Inducted-clause-grows : goal.returns-in-Inducted-clause-grows
returns-in-Inducted-clause-grows c = WorkGrows-refl c.args.history.now c.args.work.now c.requires.stands
