use Rattle.nq_replay.proofs.UncountedLemmas.{grown_trans}
use Rattle.nq_descents.proofs.apart.take_apart.Goals as goal

pub returns-in_err-row : goal.returns-in_err-row
returns-in_err-row c = c.remade_line.ensures

pub returns-in_err-again : goal.returns-in_err-again
returns-in_err-again c = c.remade_line.ensures

pub tested-requires : goal.tested-requires
tested-requires c = c.remade_line.ensures.grows.stands

pub returns-in_err-line : goal.returns-in_err-line
returns-in_err-line c = grown_trans c.args.history.now c.args.work.now c.remade_line.new.work c.tested.new.work c.remade_line.ensures c.tested.ensures

pub returns : goal.returns
returns c = grown_trans c.args.history.now c.args.work.now c.remade_line.new.work c.tested.new.work c.remade_line.ensures c.tested.ensures
