use Rattle.nq_replay.proofs.UncountedLemmas.{grown_trans}
use Rattle.nq_decrease.proofs.levels.number_law.Goals as goal

pub returns-clause-grows : goal.returns-clause-grows
returns-clause-grows c = grown_trans c.args.history.now c.args.work.now c.less_than_one_more.new.work c.one_less_is_smaller.new.work c.less_than_one_more.ensures.grows c.one_less_is_smaller.ensures.grows
