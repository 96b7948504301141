use Rattle.nq_replay.proofs.UncountedLemmas.{grown_refl}
use Rattle.nq_descents.proofs.instances.instance_at.Goals as goal

pub returns-in_err-variables : goal.returns-in_err-variables
returns-in_err-variables c = grown_refl c.args.history.now c.args.work.now c.requires

pub returns-in_err-terms : goal.returns-in_err-terms
returns-in_err-terms c = grown_refl c.args.history.now c.args.work.now c.requires

pub returns : goal.returns
returns c = c.instance.ensures
