use Rattle.nq_replay.proofs.UncountedLemmas.{grown_refl}
use Rattle.nq_descents.proofs.rules.sum.Goals as goal

pub returns-in_err-first : goal.returns-in_err-first
returns-in_err-first c = grown_refl c.args.history.now c.args.work.now c.requires

pub returns-in_err-second : goal.returns-in_err-second
returns-in_err-second c = grown_refl c.args.history.now c.args.work.now c.requires

pub returns-in_err-third : goal.returns-in_err-third
returns-in_err-third c = grown_refl c.args.history.now c.args.work.now c.requires

pub returns-in-Err : goal.returns-in-Err
returns-in-Err c = grown_refl c.args.history.now c.args.work.now c.requires
