use Rattle.nq_replay.proofs.UncountedLemmas.{grown_refl, grown_trans}
use Rattle.nq_descents.proofs.truths.denied.Goals as goal

pub returns-in_err-equation : goal.returns-in_err-equation
returns-in_err-equation c = grown_refl c.args.history.now c.args.work.now c.requires

pub returns-in_err-row : goal.returns-in_err-row
returns-in_err-row c = c.ground_row.ensures

pub replace-requires : goal.replace-requires
replace-requires c = c.ground_row.ensures.grows.stands

pub returns-in_err-moved : goal.returns-in_err-moved
returns-in_err-moved c = grown_trans c.args.history.now c.args.work.now c.ground_row.new.work c.replace.new.work c.ground_row.ensures c.replace.ensures

pub cut-requires : goal.cut-requires
cut-requires c = c.replace.ensures.grows.stands

pub returns : goal.returns
returns c = grown_trans c.args.history.now c.args.work.now c.ground_row.new.work c.cut.new.work c.ground_row.ensures (grown_trans c.args.history.now c.ground_row.new.work c.replace.new.work c.cut.new.work c.replace.ensures c.cut.ensures)
