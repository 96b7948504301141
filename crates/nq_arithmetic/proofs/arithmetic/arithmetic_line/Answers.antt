use Rattle.nq_kernel.proofs.GrowingLemmas.{WorkGrows-refl}
use Rattle.nq_arithmetic.proofs.arithmetic.arithmetic_line.Goals as goal

pub returns-then-hints-clause-grows : goal.returns-then-hints-clause-grows
returns-then-hints-clause-grows c = WorkGrows-refl c.args.history.now c.args.work.now c.requires.stands
