use Rattle.nq_replay.proofs.UncountedLemmas.{grown_trans}
use Rattle.nq_descents.proofs.truths.tested_part.Goals as goal

pub returns-in_err-there : goal.returns-in_err-there
returns-in_err-there c = c.call_at.ensures

pub decided-requires : goal.decided-requires
decided-requires c = c.call_at.ensures.grows.stands

pub returns-in_err-line : goal.returns-in_err-line
returns-in_err-line c = grown_trans c.args.history.now c.args.work.now c.call_at.new.work c.decided.new.work c.call_at.ensures c.decided.ensures

pub about_part-requires : goal.about_part-requires
about_part-requires c = c.decided.ensures.grows.stands

pub returns : goal.returns
returns c = grown_trans c.args.history.now c.args.work.now c.call_at.new.work c.about_part.new.work c.call_at.ensures (grown_trans c.args.history.now c.call_at.new.work c.decided.new.work c.about_part.new.work c.decided.ensures c.about_part.ensures)
