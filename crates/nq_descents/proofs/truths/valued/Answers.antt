use Rattle.nq_replay.proofs.UncountedLemmas.{grown_trans}
use Rattle.nq_descents.proofs.truths.valued.Goals as goal

pub returns-in_err-line : goal.returns-in_err-line
returns-in_err-line c = c.value.ensures

pub shown-requires : goal.shown-requires
shown-requires c = c.value.ensures.grows.stands

pub returns-then-is_truth : goal.returns-then-is_truth
returns-then-is_truth c = grown_trans c.args.history.now c.args.work.now c.value.new.work c.shown.new.work c.value.ensures c.shown.ensures

pub denied-requires : goal.denied-requires
denied-requires c = c.value.ensures.grows.stands

pub returns-else-is_truth : goal.returns-else-is_truth
returns-else-is_truth c = grown_trans c.args.history.now c.args.work.now c.value.new.work c.denied.new.work c.value.ensures c.denied.ensures
