use Rattle.nq_kernel.proofs.GrowingLemmas.{WorkGrows-refl}
use Rattle.nq_tactic.proofs.kinds.learn_declared.Goals as goal

pub returns-else-is_declared-clause-grows : goal.returns-else-is_declared-clause-grows
returns-else-is_declared-clause-grows c = WorkGrows-refl c.args.history.now c.args.work.now c.requires.stands
