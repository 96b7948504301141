use Rattle.nq_kernel.proofs.GrowingLemmas.{WorkGrows-refl}
use Rattle.nq_tactic.proofs.tactic.Waterfall.choose.Goals as goal

pub returns-in-Nothing-clause-grows : goal.returns-in-Nothing-clause-grows
returns-in-Nothing-clause-grows c = WorkGrows-refl c.args.history.now c.args.work.now c.requires.can.stands
