use Rattle.nq_kernel.proofs.GrowingLemmas.{WorkGrows-refl}
use Rattle.nq_arithmetic.proofs.bounding.add_lemma.Goals as goal

pub returns-else-is_bound-clause-grows : goal.returns-else-is_bound-clause-grows
returns-else-is_bound-clause-grows c = WorkGrows-refl c.args.history.now c.args.work.now c.requires.stands
