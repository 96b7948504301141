use Rattle.nq_replay.proofs.UncountedLemmas.{grown_trans}
use Rattle.nq_descents.proofs.sizes.size_of.Goals as goal

pub returns-in_err-row : goal.returns-in_err-row
returns-in_err-row c = c.row_at_parts.ensures

pub about_whole-requires : goal.about_whole-requires
about_whole-requires c = c.row_at_parts.ensures.grows.stands

pub returns-in_err-line : goal.returns-in_err-line
returns-in_err-line c = grown_trans c.args.history.now c.args.work.now c.row_at_parts.new.work c.about_whole.new.work c.row_at_parts.ensures c.about_whole.ensures

pub returns-in_err-equation : goal.returns-in_err-equation
returns-in_err-equation c = grown_trans c.args.history.now c.args.work.now c.row_at_parts.new.work c.about_whole.new.work c.row_at_parts.ensures c.about_whole.ensures

pub deny-requires : goal.deny-requires
deny-requires c = c.about_whole.ensures.grows.stands

pub returns-in_err-denied : goal.returns-in_err-denied
returns-in_err-denied c = grown_trans c.args.history.now c.args.work.now c.row_at_parts.new.work c.deny.new.work c.row_at_parts.ensures (grown_trans c.args.history.now c.row_at_parts.new.work c.about_whole.new.work c.deny.new.work c.about_whole.ensures c.deny.ensures)

pub returns : goal.returns
returns c = grown_trans c.args.history.now c.args.work.now c.row_at_parts.new.work c.deny.new.work c.row_at_parts.ensures (grown_trans c.args.history.now c.row_at_parts.new.work c.about_whole.new.work c.deny.new.work c.about_whole.ensures c.deny.ensures)
