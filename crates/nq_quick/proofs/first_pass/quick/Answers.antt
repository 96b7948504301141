use Rattle.nq_kernel.proofs.GrowingLemmas.{WorkGrows-refl}
use Rattle.nq_quick.proofs.first_pass.quick.Goals as goal

pub returns-in_err-others-clause-grows : goal.returns-in_err-others-clause-grows
returns-in_err-others-clause-grows c = WorkGrows-refl c.args.history.now c.args.work.now c.requires.stands
