use Rattle.nq_replay.proofs.UncountedLemmas.{grown_trans}
use Rattle.nq_descents.proofs.parts.defaulted_line.Goals as goal

pub returns-in_err-base : goal.returns-in_err-base
returns-in_err-base c = c.base_line.ensures

pub replace-requires : goal.replace-requires
replace-requires c = c.base_line.ensures.grows.stands

pub returns-in_err-moved : goal.returns-in_err-moved
returns-in_err-moved c = grown_trans c.args.history.now c.args.work.now c.base_line.new.work c.replace.new.work c.base_line.ensures c.replace.ensures

pub cut-requires : goal.cut-requires
cut-requires c = c.replace.ensures.grows.stands

pub returns-in_err-line : goal.returns-in_err-line
returns-in_err-line c = grown_trans c.args.history.now c.args.work.now c.base_line.new.work c.cut.new.work c.base_line.ensures (grown_trans c.args.history.now c.base_line.new.work c.replace.new.work c.cut.new.work c.replace.ensures c.cut.ensures)

pub cut-requires-2 : goal.cut-requires-2
cut-requires-2 c = c.cut.ensures.grows.stands

pub returns : goal.returns
returns c = grown_trans c.args.history.now c.args.work.now c.base_line.new.work c.cut-2.new.work c.base_line.ensures (grown_trans c.args.history.now c.base_line.new.work c.replace.new.work c.cut-2.new.work c.replace.ensures (grown_trans c.args.history.now c.replace.new.work c.cut.new.work c.cut-2.new.work c.cut.ensures c.cut-2.ensures))
