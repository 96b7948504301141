use Rattle.nq_replay.proofs.UncountedLemmas.{grown_trans}
use Rattle.nq_descents.proofs.parts.added_line.Goals as goal

pub returns-in_err-zero : goal.returns-in_err-zero
returns-in_err-zero c = c.call.ensures

pub call-requires-2-clause-stands : goal.call-requires-2-clause-stands
call-requires-2-clause-stands c = c.call.ensures.grows.stands

pub returns-in_err-added : goal.returns-in_err-added
returns-in_err-added c = grown_trans c.args.history.now c.args.work.now c.call.new.work c.call-2.new.work c.call.ensures c.call-2.ensures

pub ground_row-requires-clause-stands : goal.ground_row-requires-clause-stands
ground_row-requires-clause-stands c = c.call-2.ensures.grows.stands

pub returns-in_err-row : goal.returns-in_err-row
returns-in_err-row c = grown_trans c.args.history.now c.args.work.now c.call.new.work c.ground_row.new.work c.call.ensures (grown_trans c.args.history.now c.call.new.work c.call-2.new.work c.ground_row.new.work c.call-2.ensures c.ground_row.ensures)

pub returns-in_err-equation : goal.returns-in_err-equation
returns-in_err-equation c = grown_trans c.args.history.now c.args.work.now c.call.new.work c.ground_row.new.work c.call.ensures (grown_trans c.args.history.now c.call.new.work c.call-2.new.work c.ground_row.new.work c.call-2.ensures c.ground_row.ensures)

pub returns-in_err-pattern : goal.returns-in_err-pattern
returns-in_err-pattern c = grown_trans c.args.history.now c.args.work.now c.call.new.work c.ground_row.new.work c.call.ensures (grown_trans c.args.history.now c.call.new.work c.call-2.new.work c.ground_row.new.work c.call-2.ensures c.ground_row.ensures)

pub instance_at-requires : goal.instance_at-requires
instance_at-requires c = c.ground_row.ensures.grows.stands

pub returns : goal.returns
returns c = grown_trans c.args.history.now c.args.work.now c.call.new.work c.instance_at.new.work c.call.ensures (grown_trans c.args.history.now c.call.new.work c.call-2.new.work c.instance_at.new.work c.call-2.ensures (grown_trans c.args.history.now c.call-2.new.work c.ground_row.new.work c.instance_at.new.work c.ground_row.ensures c.instance_at.ensures))
