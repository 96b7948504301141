use Rattle.nq_replay.proofs.UncountedLemmas.{grown_refl}
use Rattle.nq_descents.proofs.rules.shell_row.Goals as goal

pub returns-in-None : goal.returns-in-None
returns-in-None c = grown_refl c.args.history.now c.args.work.now c.requires
