use Rattle.nq_replay.proofs.UncountedLemmas.{grown_refl, grown_trans}
use Rattle.nq_descents.proofs.facts.add_pair.Goals as goal

pub returns-in_err-first : goal.returns-in_err-first
returns-in_err-first c = grown_refl c.args.history.now c.args.work.now c.requires

pub returns-in_err-second : goal.returns-in_err-second
returns-in_err-second c = grown_refl c.args.history.now c.args.work.now c.requires

pub returns-in_err-one : goal.returns-in_err-one
returns-in_err-one c = c.deny.ensures

pub deny-requires-2 : goal.deny-requires-2
deny-requires-2 c = c.deny.ensures.grows.stands

pub returns-in_err-other : goal.returns-in_err-other
returns-in_err-other c = grown_trans c.args.history.now c.args.work.now c.deny.new.work c.deny-2.new.work c.deny.ensures c.deny-2.ensures

pub returns-in_err-add_fact : goal.returns-in_err-add_fact
returns-in_err-add_fact c = grown_trans c.args.history.now c.args.work.now c.deny.new.work c.deny-2.new.work c.deny.ensures c.deny-2.ensures

pub returns : goal.returns
returns c = grown_trans c.args.history.now c.args.work.now c.deny.new.work c.deny-2.new.work c.deny.ensures c.deny-2.ensures
