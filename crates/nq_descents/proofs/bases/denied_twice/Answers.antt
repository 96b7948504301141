use Rattle.nq_replay.proofs.UncountedLemmas.{grown_trans}
use Rattle.nq_descents.proofs.bases.denied_twice.Goals as goal

pub returns-in_err-denied : goal.returns-in_err-denied
returns-in_err-denied c = c.deny.ensures

pub opposites-requires : goal.opposites-requires
opposites-requires c = c.deny.ensures.grows.stands

pub returns-in_err-either : goal.returns-in_err-either
returns-in_err-either c = grown_trans c.args.history.now c.args.work.now c.deny.new.work c.opposites.new.work c.deny.ensures c.opposites.ensures

pub cut-requires : goal.cut-requires
cut-requires c = c.opposites.ensures.grows.stands

pub returns : goal.returns
returns c = grown_trans c.args.history.now c.args.work.now c.deny.new.work c.cut.new.work c.deny.ensures (grown_trans c.args.history.now c.deny.new.work c.opposites.new.work c.cut.new.work c.opposites.ensures c.cut.ensures)
