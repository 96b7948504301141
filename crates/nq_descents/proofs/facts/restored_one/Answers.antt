use Rattle.nq_replay.proofs.UncountedLemmas.{grown_refl}
use Rattle.nq_descents.proofs.facts.restored_one.Goals as goal

pub returns-in-Given : goal.returns-in-Given
returns-in-Given c = grown_refl c.args.history.now c.args.work.now c.requires
