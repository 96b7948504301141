use Rattle.nq_replay.proofs.UncountedLemmas.{grown_refl}
use Rattle.nq_descents.proofs.truths.about_part.Goals as goal

pub returns-in_err-literal : goal.returns-in_err-literal
returns-in_err-literal c = grown_refl c.args.history.now c.args.work.now c.requires
