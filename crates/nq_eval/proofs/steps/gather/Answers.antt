use Rattle.nq_eval.proofs.LineLemmas.{grown_refl}
use Rattle.nq_eval.proofs.steps.gather.Goals as goal

pub returns-then-len-clause-grows : goal.returns-then-len-clause-grows
returns-then-len-clause-grows c = grown_refl c.args.history.now c.args.work.now c.requires.stands
