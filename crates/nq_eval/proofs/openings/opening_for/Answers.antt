use Rattle.nq_eval.proofs.LineLemmas.{grown_refl}
use Rattle.nq_eval.proofs.openings.opening_for.Goals as goal

pub returns-else-is_ground-clause-grows : goal.returns-else-is_ground-clause-grows
returns-else-is_ground-clause-grows c = grown_refl c.args.history.now c.args.work.now c.requires.stands
