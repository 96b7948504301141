use Rattle.nq_kernel.proofs.GrowingLemmas.{WorkGrows-refl}
use Rattle.nq_rewrite.proofs.entrance.rewritten.Goals as goal

pub returns-in_err-nested-clause-grows : goal.returns-in_err-nested-clause-grows
returns-in_err-nested-clause-grows c = WorkGrows-refl c.args.history.now c.args.work.now c.requires.can.stands
