use Rattle.nq_replay.proofs.UncountedLemmas.{grown_trans}
use Rattle.nq_descents.proofs.parts.level_of.Goals as goal

pub returns-in_err-size : goal.returns-in_err-size
returns-in_err-size c = c.size_of.ensures

pub take_piece-requires : goal.take_piece-requires
take_piece-requires c = c.size_of.ensures.grows.stands

pub returns-in_err-piece : goal.returns-in_err-piece
returns-in_err-piece c = grown_trans c.args.history.now c.args.work.now c.size_of.new.work c.take_piece.new.work c.size_of.ensures c.take_piece.ensures

pub descent_of-requires : goal.descent_of-requires
descent_of-requires c = c.take_piece.ensures.grows.stands

pub returns-in_err-descent : goal.returns-in_err-descent
returns-in_err-descent c = grown_trans c.args.history.now c.args.work.now c.size_of.new.work c.descent_of.new.work c.size_of.ensures (grown_trans c.args.history.now c.size_of.new.work c.take_piece.new.work c.descent_of.new.work c.take_piece.ensures c.descent_of.ensures)

pub allowed_line-requires : goal.allowed_line-requires
allowed_line-requires c = c.descent_of.ensures.grows.stands

pub returns-in_err-allowed : goal.returns-in_err-allowed
returns-in_err-allowed c = grown_trans c.args.history.now c.args.work.now c.size_of.new.work c.allowed_line.new.work c.size_of.ensures (grown_trans c.args.history.now c.size_of.new.work c.take_piece.new.work c.allowed_line.new.work c.take_piece.ensures (grown_trans c.args.history.now c.take_piece.new.work c.descent_of.new.work c.allowed_line.new.work c.descent_of.ensures c.allowed_line.ensures))

pub other_line-requires : goal.other_line-requires
other_line-requires c = c.allowed_line.ensures.grows.stands

pub returns-in_err-other : goal.returns-in_err-other
returns-in_err-other c = grown_trans c.args.history.now c.args.work.now c.size_of.new.work c.other_line.new.work c.size_of.ensures (grown_trans c.args.history.now c.size_of.new.work c.take_piece.new.work c.other_line.new.work c.take_piece.ensures (grown_trans c.args.history.now c.take_piece.new.work c.descent_of.new.work c.other_line.new.work c.descent_of.ensures (grown_trans c.args.history.now c.descent_of.new.work c.allowed_line.new.work c.other_line.new.work c.allowed_line.ensures c.other_line.ensures)))

pub cut-requires : goal.cut-requires
cut-requires c = c.other_line.ensures.grows.stands

pub returns-in_err-line : goal.returns-in_err-line
returns-in_err-line c = grown_trans c.args.history.now c.args.work.now c.size_of.new.work c.cut.new.work c.size_of.ensures (grown_trans c.args.history.now c.size_of.new.work c.take_piece.new.work c.cut.new.work c.take_piece.ensures (grown_trans c.args.history.now c.take_piece.new.work c.descent_of.new.work c.cut.new.work c.descent_of.ensures (grown_trans c.args.history.now c.descent_of.new.work c.allowed_line.new.work c.cut.new.work c.allowed_line.ensures (grown_trans c.args.history.now c.allowed_line.new.work c.other_line.new.work c.cut.new.work c.other_line.ensures c.cut.ensures))))

pub returns : goal.returns
returns c = grown_trans c.args.history.now c.args.work.now c.size_of.new.work c.cut.new.work c.size_of.ensures (grown_trans c.args.history.now c.size_of.new.work c.take_piece.new.work c.cut.new.work c.take_piece.ensures (grown_trans c.args.history.now c.take_piece.new.work c.descent_of.new.work c.cut.new.work c.descent_of.ensures (grown_trans c.args.history.now c.descent_of.new.work c.allowed_line.new.work c.cut.new.work c.allowed_line.ensures (grown_trans c.args.history.now c.allowed_line.new.work c.other_line.new.work c.cut.new.work c.other_line.ensures c.cut.ensures))))
