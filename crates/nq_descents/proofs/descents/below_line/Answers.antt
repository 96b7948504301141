use Rattle.nq_replay.proofs.UncountedLemmas.{grown_refl, grown_trans}
use Rattle.nq_descents.proofs.descents.below_line.Goals as goal

pub returns-in_err-t : goal.returns-in_err-t
returns-in_err-t c = grown_refl c.args.history.now c.args.work.now c.requires

pub returns-in_err-u : goal.returns-in_err-u
returns-in_err-u c = grown_refl c.args.history.now c.args.work.now c.requires

pub returns-in_err-reached : goal.returns-in_err-reached
returns-in_err-reached c = c.nest_line.ensures

pub below_law-requires : goal.below_law-requires
below_law-requires c = c.nest_line.ensures.grows.stands

pub returns-in_err-law : goal.returns-in_err-law
returns-in_err-law c = grown_trans c.args.history.now c.args.work.now c.nest_line.new.work c.below_law.new.work c.nest_line.ensures c.below_law.ensures

pub cut-requires : goal.cut-requires
cut-requires c = c.below_law.ensures.grows.stands

pub returns : goal.returns
returns c = grown_trans c.args.history.now c.args.work.now c.nest_line.new.work c.cut.new.work c.nest_line.ensures (grown_trans c.args.history.now c.nest_line.new.work c.below_law.new.work c.cut.new.work c.below_law.ensures c.cut.ensures)
