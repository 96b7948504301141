use Rattle.nq_replay.proofs.UncountedLemmas.{grown_refl}
use Rattle.nq_descents.proofs.descents.line_of.Goals as goal

pub returns-in_err-size : goal.returns-in_err-size
returns-in_err-size c = grown_refl c.args.history.now c.args.work.now c.requires
