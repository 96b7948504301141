use Rattle.nq_replay.proofs.UncountedLemmas.{grown_refl}
use Rattle.nq_descents.proofs.descents.smaller_line.Goals as goal

pub returns-in_err-small : goal.returns-in_err-small
returns-in_err-small c = grown_refl c.args.history.now c.args.work.now c.requires

pub returns-in_err-large : goal.returns-in_err-large
returns-in_err-large c = grown_refl c.args.history.now c.args.work.now c.requires
