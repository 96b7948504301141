use Rattle.nq_replay.proofs.UncountedLemmas.{grown_trans}
use Rattle.nq_descents.proofs.parts.base_line.Goals as goal

pub returns-in_err-row : goal.returns-in_err-row
returns-in_err-row c = c.shell_row.ensures

pub returns-in_err-equation : goal.returns-in_err-equation
returns-in_err-equation c = c.shell_row.ensures

pub deny-requires : goal.deny-requires
deny-requires c = c.shell_row.ensures.grows.stands

pub returns-in_err-denied : goal.returns-in_err-denied
returns-in_err-denied c = grown_trans c.args.history.now c.args.work.now c.shell_row.new.work c.deny.new.work c.shell_row.ensures c.deny.ensures

pub returns-in_err-default : goal.returns-in_err-default
returns-in_err-default c = grown_trans c.args.history.now c.args.work.now c.shell_row.new.work c.deny.new.work c.shell_row.ensures c.deny.ensures

pub descent_of-requires : goal.descent_of-requires
descent_of-requires c = c.deny.ensures.grows.stands

pub returns-in_err-descent : goal.returns-in_err-descent
returns-in_err-descent c = grown_trans c.args.history.now c.args.work.now c.shell_row.new.work c.descent_of.new.work c.shell_row.ensures (grown_trans c.args.history.now c.shell_row.new.work c.deny.new.work c.descent_of.new.work c.deny.ensures c.descent_of.ensures)

pub sum-requires : goal.sum-requires
sum-requires c = c.descent_of.ensures.grows.stands

pub returns-in_err-below : goal.returns-in_err-below
returns-in_err-below c = grown_trans c.args.history.now c.args.work.now c.shell_row.new.work c.sum.new.work c.shell_row.ensures (grown_trans c.args.history.now c.shell_row.new.work c.deny.new.work c.sum.new.work c.deny.ensures (grown_trans c.args.history.now c.deny.new.work c.descent_of.new.work c.sum.new.work c.descent_of.ensures c.sum.ensures))

pub cut-requires : goal.cut-requires
cut-requires c = c.sum.ensures.grows.stands

pub returns : goal.returns
returns c = grown_trans c.args.history.now c.args.work.now c.shell_row.new.work c.cut.new.work c.shell_row.ensures (grown_trans c.args.history.now c.shell_row.new.work c.deny.new.work c.cut.new.work c.deny.ensures (grown_trans c.args.history.now c.deny.new.work c.descent_of.new.work c.cut.new.work c.descent_of.ensures (grown_trans c.args.history.now c.descent_of.new.work c.sum.new.work c.cut.new.work c.sum.ensures c.cut.ensures)))
