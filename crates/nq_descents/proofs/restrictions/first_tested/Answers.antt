use Rattle.nq_replay.proofs.UncountedLemmas.{grown_refl}
use Rattle.nq_descents.proofs.restrictions.first_tested.Goals as goal

pub returns-in_err-test : goal.returns-in_err-test
returns-in_err-test c = grown_refl c.args.history.now c.args.work.now c.requires

pub returns : goal.returns
returns c = c.tested_part.ensures
