use Rattle.nq_replay.proofs.UncountedLemmas.{grown_trans}
use Rattle.nq_descents.proofs.parts.take_piece.Goals as goal

pub returns-in_err-row : goal.returns-in_err-row
returns-in_err-row c = c.row_at_parts.ensures

pub returns-in_err-allowed : goal.returns-in_err-allowed
returns-in_err-allowed c = c.row_at_parts.ensures

pub about_whole-requires : goal.about_whole-requires
about_whole-requires c = c.row_at_parts.ensures.grows.stands

pub returns-in_err-line : goal.returns-in_err-line
returns-in_err-line c = grown_trans c.args.history.now c.args.work.now c.row_at_parts.new.work c.about_whole.new.work c.row_at_parts.ensures c.about_whole.ensures

pub returns-in_err-defaulted : goal.returns-in_err-defaulted
returns-in_err-defaulted c = grown_trans c.args.history.now c.args.work.now c.row_at_parts.new.work c.about_whole.new.work c.row_at_parts.ensures c.about_whole.ensures

pub returns-in_err-part : goal.returns-in_err-part
returns-in_err-part c = grown_trans c.args.history.now c.args.work.now c.row_at_parts.new.work c.about_whole.new.work c.row_at_parts.ensures c.about_whole.ensures

pub returns : goal.returns
returns c = grown_trans c.args.history.now c.args.work.now c.row_at_parts.new.work c.about_whole.new.work c.row_at_parts.ensures c.about_whole.ensures
