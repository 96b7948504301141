use Rattle.nq_kernel.proofs.GrowingLemmas.{WorkGrows-refl}
use Rattle.nq_arithmetic.proofs.guards.without_literal.Goals as goal

pub returns-then-has_id-clause-grows : goal.returns-then-has_id-clause-grows
returns-then-has_id-clause-grows c = WorkGrows-refl c.args.history.now c.args.work.now c.requires.stands
