use Rattle.nq_replay.proofs.UncountedLemmas.{grown_trans}
use Rattle.nq_descents.proofs.descents.below_law.Goals as goal

pub returns-in_err-law : goal.returns-in_err-law
returns-in_err-law c = c.smaller_is_below.ensures.grows

pub returns-in_err-below : goal.returns-in_err-below
returns-in_err-below c = c.smaller_is_below.ensures.grows

pub returns-in_err-small : goal.returns-in_err-small
returns-in_err-small c = c.smaller_is_below.ensures.grows

pub returns-in_err-large : goal.returns-in_err-large
returns-in_err-large c = c.smaller_is_below.ensures.grows

pub returns-in_err-x : goal.returns-in_err-x
returns-in_err-x c = c.smaller_is_below.ensures.grows

pub returns-in_err-y : goal.returns-in_err-y
returns-in_err-y c = c.smaller_is_below.ensures.grows

pub instance-requires : goal.instance-requires
instance-requires c = c.smaller_is_below.ensures.grows.grows.stands

pub returns : goal.returns
returns c = grown_trans c.args.history.now c.args.work.now c.smaller_is_below.new.work c.instance.new.work c.smaller_is_below.ensures.grows c.instance.ensures
