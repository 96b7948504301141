use Rattle.nq_kernel.proofs.GrowingLemmas.{WorkGrows-refl}
use Rattle.nq_tactic.proofs.kinds.learn_named.Goals as goal

pub returns-else-is_new-clause-grows : goal.returns-else-is_new-clause-grows
returns-else-is_new-clause-grows c = WorkGrows-refl c.args.history.now c.args.work.now c.requires.can.stands
