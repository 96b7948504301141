use Rattle.nq_replay.proofs.UncountedLemmas.{grown_trans}
use Rattle.nq_descents.proofs.sizes.descent_of.Goals as goal

pub returns-in_err-small : goal.returns-in_err-small
returns-in_err-small c = c.call.ensures

pub call-requires-2-clause-stands : goal.call-requires-2-clause-stands
call-requires-2-clause-stands c = c.call.ensures.grows.stands

pub returns-in_err-large : goal.returns-in_err-large
returns-in_err-large c = grown_trans c.args.history.now c.args.work.now c.call.new.work c.call-2.new.work c.call.ensures c.call-2.ensures

pub call-requires-3-clause-stands : goal.call-requires-3-clause-stands
call-requires-3-clause-stands c = c.call-2.ensures.grows.stands

pub returns-in_err-smaller : goal.returns-in_err-smaller
returns-in_err-smaller c = grown_trans c.args.history.now c.args.work.now c.call.new.work c.call-3.new.work c.call.ensures (grown_trans c.args.history.now c.call.new.work c.call-2.new.work c.call-3.new.work c.call-2.ensures c.call-3.ensures)

pub returns : goal.returns
returns c = grown_trans c.args.history.now c.args.work.now c.call.new.work c.call-3.new.work c.call.ensures (grown_trans c.args.history.now c.call.new.work c.call-2.new.work c.call-3.new.work c.call-2.ensures c.call-3.ensures)
