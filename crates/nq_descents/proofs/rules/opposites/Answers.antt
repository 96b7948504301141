use Rattle.nq_replay.proofs.UncountedLemmas.{grown_trans}
use Rattle.nq_descents.proofs.rules.opposites.Goals as goal

pub returns-in_err-denied : goal.returns-in_err-denied
returns-in_err-denied c = c.deny.ensures

pub opposites_of-requires : goal.opposites_of-requires
opposites_of-requires c = c.deny.ensures.grows.stands

pub returns : goal.returns
returns c = grown_trans c.args.history.now c.args.work.now c.deny.new.work c.opposites_of.new.work c.deny.ensures c.opposites_of.ensures
