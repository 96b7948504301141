use Rattle.nq_replay.proofs.UncountedLemmas.{grown_refl}
use Rattle.nq_measures.proofs.descents.find_by_size.Goals as goal

pub returns-in-None-clause-grows : goal.returns-in-None-clause-grows
returns-in-None-clause-grows c = grown_refl c.args.history.now c.args.work.now c.requires.stands
