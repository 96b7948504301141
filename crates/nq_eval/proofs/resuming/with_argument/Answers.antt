use Rattle.nq_eval.proofs.LineLemmas.{grown_refl}
use Rattle.nq_eval.proofs.resuming.with_argument.Goals as goal

pub returns-in_err-more-clause-grows : goal.returns-in_err-more-clause-grows
returns-in_err-more-clause-grows c = grown_refl c.args.history.now c.args.work.now c.requires.stands
