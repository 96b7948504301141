use Rattle.nq_kernel.proofs.GrowingLemmas.{WorkGrows-refl}
use Rattle.nq_tactic.proofs.falls.learn_falls_named.Goals as goal

pub returns-else-has_name-clause-grows : goal.returns-else-has_name-clause-grows
returns-else-has_name-clause-grows c = WorkGrows-refl c.args.history.now c.args.work.now c.requires.can.stands
