use Rattle.nq_replay.proofs.UncountedLemmas.{grown_refl}
use Rattle.nq_descents.proofs.bases.tested_base.Goals as goal

pub returns-then-is_short : goal.returns-then-is_short
returns-then-is_short c = grown_refl c.args.history.now c.args.work.now c.requires

pub returns-in_err-equation : goal.returns-in_err-equation
returns-in_err-equation c = grown_refl c.args.history.now c.args.work.now c.requires
