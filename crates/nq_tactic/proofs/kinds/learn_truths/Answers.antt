use Rattle.nq_kernel.proofs.GrowingLemmas.{WorkGrows-refl}
use Rattle.nq_tactic.proofs.kinds.learn_truths.Goals as goal

pub returns-in-Err-clause-grows : goal.returns-in-Err-clause-grows
returns-in-Err-clause-grows c = WorkGrows-refl c.args.history.now c.args.work.now c.requires.can.stands
