use Rattle.nq_replay.proofs.UncountedLemmas.{grown_refl}
use Rattle.nq_descents.proofs.rules.opposites_of.Goals as goal

pub returns-in_err-t : goal.returns-in_err-t
returns-in_err-t c = grown_refl c.args.history.now c.args.work.now c.requires

pub returns-in_err-denied : goal.returns-in_err-denied
returns-in_err-denied c = grown_refl c.args.history.now c.args.work.now c.requires

pub returns-in-Err : goal.returns-in-Err
returns-in-Err c = grown_refl c.args.history.now c.args.work.now c.requires
