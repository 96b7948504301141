use Rattle.nq_kernel.proofs.GrowingLemmas.{WorkGrows-refl}
use Rattle.nq_elim.proofs.eliminating.eliminate_by.Goals as goal

pub returns-in_err-reason-clause-grows : goal.returns-in_err-reason-clause-grows
returns-in_err-reason-clause-grows c = WorkGrows-refl c.args.history.now c.args.work.now c.requires.stands
