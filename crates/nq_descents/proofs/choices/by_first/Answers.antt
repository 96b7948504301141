use Rattle.nq_replay.proofs.UncountedLemmas.{grown_refl, grown_trans}
use Rattle.nq_descents.proofs.choices.by_first.Goals as goal

pub returns-in_err-part : goal.returns-in_err-part
returns-in_err-part c = grown_refl c.args.history.now c.args.work.now c.requires

pub returns-in_err-law : goal.returns-in_err-law
returns-in_err-law c = c.first_line.ensures

pub returns-in_err-pattern : goal.returns-in_err-pattern
returns-in_err-pattern c = c.first_line.ensures

pub instance_at-requires : goal.instance_at-requires
instance_at-requires c = c.first_line.ensures.grows.stands

pub returns-in_err-here : goal.returns-in_err-here
returns-in_err-here c = grown_trans c.args.history.now c.args.work.now c.first_line.new.work c.instance_at.new.work c.first_line.ensures c.instance_at.ensures

pub cut-requires : goal.cut-requires
cut-requires c = c.instance_at.ensures.grows.stands

pub returns : goal.returns
returns c = grown_trans c.args.history.now c.args.work.now c.first_line.new.work c.cut.new.work c.first_line.ensures (grown_trans c.args.history.now c.first_line.new.work c.instance_at.new.work c.cut.new.work c.instance_at.ensures c.cut.ensures)
