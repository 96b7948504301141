use Rattle.nq_quick.proofs.LineLemmas.{grown_refl}
use Rattle.nq_quick.proofs.lines.denial_of.Goals as goal

pub returns-else-value-clause-grows : goal.returns-else-value-clause-grows
returns-else-value-clause-grows c = grown_refl c.args.history.now c.args.work.now c.requires.stands
