use Rattle.nq_kernel.proofs.GrowingLemmas.{WorkGrows-refl}
use Rattle.nq_arithmetic.proofs.bounding.add_entry.Goals as goal

pub returns-else-is_tried-clause-grows : goal.returns-else-is_tried-clause-grows
returns-else-is_tried-clause-grows c = WorkGrows-refl c.args.history.now c.args.work.now c.requires.stands
