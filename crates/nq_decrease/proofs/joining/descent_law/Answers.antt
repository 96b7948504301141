use Rattle.nq_replay.proofs.UncountedLemmas.{grown_trans}
use Rattle.nq_decrease.proofs.joining.descent_law.Goals as goal

pub returns-in_err-transitive-clause-grows : goal.returns-in_err-transitive-clause-grows
returns-in_err-transitive-clause-grows c = grown_trans c.args.history.now c.args.work.now c.size_falls.new.work c.less_is_transitive.new.work c.size_falls.ensures.grows c.less_is_transitive.ensures.grows

pub returns-clause-grows : goal.returns-clause-grows
returns-clause-grows c = grown_trans c.args.history.now c.args.work.now c.size_falls.new.work c.sizes_descend.new.work c.size_falls.ensures.grows (grown_trans c.args.history.now c.size_falls.new.work c.less_is_transitive.new.work c.sizes_descend.new.work c.less_is_transitive.ensures.grows c.sizes_descend.ensures.grows)
