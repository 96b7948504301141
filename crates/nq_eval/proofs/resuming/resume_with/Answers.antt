use Rattle.nq_eval.proofs.LineLemmas.{grown_refl}
use Rattle.nq_eval.proofs.resuming.resume_with.Goals as goal

pub returns-in-Test-clause-grows : goal.returns-in-Test-clause-grows
returns-in-Test-clause-grows c = grown_refl c.args.history.now c.args.work.now c.requires.stands
