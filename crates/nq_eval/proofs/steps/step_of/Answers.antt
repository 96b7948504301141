use Rattle.nq_eval.proofs.LineLemmas.{grown_refl}
use Rattle.nq_eval.proofs.steps.step_of.Goals as goal

pub returns-in-Opened-clause-grows : goal.returns-in-Opened-clause-grows
returns-in-Opened-clause-grows c = grown_refl c.args.history.now c.args.work.now c.requires.stands
