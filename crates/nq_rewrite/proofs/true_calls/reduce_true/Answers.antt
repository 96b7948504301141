use Rattle.nq_kernel.proofs.GrowingLemmas.{WorkGrows-refl}
use Rattle.nq_rewrite.proofs.true_calls.reduce_true.Goals as goal

pub returns-else-is_true_call-clause-grows : goal.returns-else-is_true_call-clause-grows
returns-else-is_true_call-clause-grows c = WorkGrows-refl c.args.history.now c.args.work.now c.requires.can.stands
