use Rattle.nq_replay.proofs.UncountedLemmas.{grown_trans}
use Rattle.nq_descents.proofs.nests.further.Goals as goal

pub returns-in_err-next : goal.returns-in_err-next
returns-in_err-next c = c.level_of.ensures

pub join-requires : goal.join-requires
join-requires c = c.level_of.ensures.grows.stands

pub returns : goal.returns
returns c = grown_trans c.args.history.now c.args.work.now c.level_of.new.work c.join.new.work c.level_of.ensures c.join.ensures
