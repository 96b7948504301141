use Rattle.nq_replay.proofs.UncountedLemmas.{grown_trans}
use Rattle.nq_descents.proofs.parts.part_line.Goals as goal

pub returns-in_err-apart : goal.returns-in_err-apart
returns-in_err-apart c = c.take_apart.ensures

pub level_of-requires : goal.level_of-requires
level_of-requires c = c.take_apart.ensures.grows.stands

pub returns : goal.returns
returns c = grown_trans c.args.history.now c.args.work.now c.take_apart.new.work c.level_of.new.work c.take_apart.ensures c.level_of.ensures
