use Rattle.nq_replay.proofs.UncountedLemmas.{grown_trans}
use Rattle.nq_descents.proofs.parts.allowed_line.Goals as goal

pub returns-in_err-added : goal.returns-in_err-added
returns-in_err-added c = c.added_line.ensures

pub returns-in_err-equation : goal.returns-in_err-equation
returns-in_err-equation c = c.added_line.ensures

pub deny-requires : goal.deny-requires
deny-requires c = c.added_line.ensures.grows.stands

pub returns-in_err-denied : goal.returns-in_err-denied
returns-in_err-denied c = grown_trans c.args.history.now c.args.work.now c.added_line.new.work c.deny.new.work c.added_line.ensures c.deny.ensures

pub sum-requires : goal.sum-requires
sum-requires c = c.deny.ensures.grows.stands

pub returns-in_err-below : goal.returns-in_err-below
returns-in_err-below c = grown_trans c.args.history.now c.args.work.now c.added_line.new.work c.sum.new.work c.added_line.ensures (grown_trans c.args.history.now c.added_line.new.work c.deny.new.work c.sum.new.work c.deny.ensures c.sum.ensures)

pub cut-requires : goal.cut-requires
cut-requires c = c.sum.ensures.grows.stands

pub returns-in_err-line : goal.returns-in_err-line
returns-in_err-line c = grown_trans c.args.history.now c.args.work.now c.added_line.new.work c.cut.new.work c.added_line.ensures (grown_trans c.args.history.now c.added_line.new.work c.deny.new.work c.cut.new.work c.deny.ensures (grown_trans c.args.history.now c.deny.new.work c.sum.new.work c.cut.new.work c.sum.ensures c.cut.ensures))

pub cut-requires-2 : goal.cut-requires-2
cut-requires-2 c = c.cut.ensures.grows.stands

pub returns : goal.returns
returns c = grown_trans c.args.history.now c.args.work.now c.added_line.new.work c.cut-2.new.work c.added_line.ensures (grown_trans c.args.history.now c.added_line.new.work c.deny.new.work c.cut-2.new.work c.deny.ensures (grown_trans c.args.history.now c.deny.new.work c.sum.new.work c.cut-2.new.work c.sum.ensures (grown_trans c.args.history.now c.sum.new.work c.cut.new.work c.cut-2.new.work c.cut.ensures c.cut-2.ensures)))
