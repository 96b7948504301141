use Rattle.nq_replay.proofs.UncountedLemmas.{grown_refl}
use Rattle.nq_descents.proofs.restrictions.restriction_met.Goals as goal

pub returns-in_err-nest : goal.returns-in_err-nest
returns-in_err-nest c = grown_refl c.args.history.now c.args.work.now c.requires

pub returns : goal.returns
returns c = c.nest_tested.ensures
