use Rattle.nq_kernel.proofs.GrowingLemmas.{WorkGrows-refl}
use Rattle.nq_schemes.proofs.sizes.part_line.Goals as goal

pub returns-then-depth-gt-PART_DEPTH-clause-grows : goal.returns-then-depth-gt-PART_DEPTH-clause-grows
returns-then-depth-gt-PART_DEPTH-clause-grows c = WorkGrows-refl c.args.history.now c.args.work.now c.requires.stands
