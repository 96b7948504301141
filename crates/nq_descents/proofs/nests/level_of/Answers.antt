use Rattle.nq_replay.proofs.UncountedLemmas.{grown_refl}
use Rattle.nq_descents.proofs.nests.level_of.Goals as goal

pub returns-in_err-place : goal.returns-in_err-place
returns-in_err-place c = grown_refl c.args.history.now c.args.work.now c.requires

pub returns-in_err-whole : goal.returns-in_err-whole
returns-in_err-whole c = grown_refl c.args.history.now c.args.work.now c.requires

pub returns : goal.returns
returns c = c.part_line.ensures
