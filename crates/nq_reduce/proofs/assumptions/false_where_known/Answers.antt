use Rattle.nq_kernel.proofs.GrowingLemmas.{WorkGrows-refl}
use Rattle.nq_reduce.proofs.assumptions.false_where_known.Goals as goal

pub returns-then-known-clause-grows : goal.returns-then-known-clause-grows
returns-then-known-clause-grows c = WorkGrows-refl c.args.history.now c.args.work.now c.requires.can.stands
