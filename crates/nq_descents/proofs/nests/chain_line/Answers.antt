use Rattle.nq_replay.proofs.UncountedLemmas.{grown_trans}
use Rattle.nq_descents.proofs.nests.chain_line.Goals as goal

pub returns-in_err-one : goal.returns-in_err-one
returns-in_err-one c = c.deny.ensures

pub deny-requires-2 : goal.deny-requires-2
deny-requires-2 c = c.deny.ensures.grows.stands

pub returns-in_err-two : goal.returns-in_err-two
returns-in_err-two c = grown_trans c.args.history.now c.args.work.now c.deny.new.work c.deny-2.new.work c.deny.ensures c.deny-2.ensures

pub sum-requires : goal.sum-requires
sum-requires c = c.deny-2.ensures.grows.stands

pub returns : goal.returns
returns c = grown_trans c.args.history.now c.args.work.now c.deny.new.work c.sum.new.work c.deny.ensures (grown_trans c.args.history.now c.deny.new.work c.deny-2.new.work c.sum.new.work c.deny-2.ensures c.sum.ensures)
