use Rattle.nq_replay.proofs.UncountedLemmas.{grown_trans}
use Rattle.nq_descents.proofs.making.deny_twice.Goals as goal

pub returns-in_err-denied : goal.returns-in_err-denied
returns-in_err-denied c = c.deny.ensures

pub deny-requires-2 : goal.deny-requires-2
deny-requires-2 c = c.deny.ensures.grows.stands

pub returns : goal.returns
returns c = grown_trans c.args.history.now c.args.work.now c.deny.new.work c.deny-2.new.work c.deny.ensures c.deny-2.ensures
