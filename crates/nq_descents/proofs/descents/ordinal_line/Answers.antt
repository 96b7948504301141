use Rattle.nq_replay.proofs.UncountedLemmas.{grown_refl, grown_trans}
use Rattle.nq_descents.proofs.descents.ordinal_line.Goals as goal

pub returns-in_err-t : goal.returns-in_err-t
returns-in_err-t c = grown_refl c.args.history.now c.args.work.now c.requires

pub returns-in_err-law : goal.returns-in_err-law
returns-in_err-law c = c.size_is_ordinal.ensures.grows

pub returns-in_err-known : goal.returns-in_err-known
returns-in_err-known c = c.size_is_ordinal.ensures.grows

pub returns-in_err-count : goal.returns-in_err-count
returns-in_err-count c = c.size_is_ordinal.ensures.grows

pub returns-in_err-variable : goal.returns-in_err-variable
returns-in_err-variable c = c.size_is_ordinal.ensures.grows

pub instance-requires : goal.instance-requires
instance-requires c = c.size_is_ordinal.ensures.grows.grows.stands

pub returns : goal.returns
returns c = grown_trans c.args.history.now c.args.work.now c.size_is_ordinal.new.work c.instance.new.work c.size_is_ordinal.ensures.grows c.instance.ensures
