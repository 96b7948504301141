use Rattle.nq_replay.proofs.UncountedLemmas.{grown_refl}
use Rattle.nq_descents.proofs.rules.value.Goals as goal

pub returns-in_err-t : goal.returns-in_err-t
returns-in_err-t c = grown_refl c.args.history.now c.args.work.now c.requires

pub returns : goal.returns
returns c = c.add.ensures
