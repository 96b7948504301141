use Rattle.nq_kernel.proofs.GrowingLemmas.{WorkGrows-refl}
use Rattle.nq_schemes.proofs.gathering.case_with.Goals as goal

pub returns-then-is_empty-clause-grows : goal.returns-then-is_empty-clause-grows
returns-then-is_empty-clause-grows c = WorkGrows-refl c.args.history.now c.args.work.now c.requires.stands
