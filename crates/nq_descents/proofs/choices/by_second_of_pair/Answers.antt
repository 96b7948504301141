use Rattle.nq_replay.proofs.UncountedLemmas.{grown_refl, grown_trans}
use Rattle.nq_descents.proofs.choices.by_second_of_pair.Goals as goal

pub returns-in_err-part : goal.returns-in_err-part
returns-in_err-part c = grown_refl c.args.history.now c.args.work.now c.requires

pub returns-in_err-law : goal.returns-in_err-law
returns-in_err-law c = c.second_of_pair.ensures.grows

pub returns-in_err-denied : goal.returns-in_err-denied
returns-in_err-denied c = c.second_of_pair.ensures.grows

pub returns-in_err-pattern : goal.returns-in_err-pattern
returns-in_err-pattern c = c.second_of_pair.ensures.grows

pub instance_at-requires : goal.instance_at-requires
instance_at-requires c = c.second_of_pair.ensures.grows.grows.stands

pub returns-in_err-here : goal.returns-in_err-here
returns-in_err-here c = grown_trans c.args.history.now c.args.work.now c.second_of_pair.new.work c.instance_at.new.work c.second_of_pair.ensures.grows c.instance_at.ensures

pub cut-requires : goal.cut-requires
cut-requires c = c.instance_at.ensures.grows.stands

pub returns : goal.returns
returns c = grown_trans c.args.history.now c.args.work.now c.second_of_pair.new.work c.cut.new.work c.second_of_pair.ensures.grows (grown_trans c.args.history.now c.second_of_pair.new.work c.instance_at.new.work c.cut.new.work c.instance_at.ensures c.cut.ensures)
