use Rattle.nq_replay.proofs.UncountedLemmas.{grown_trans}
use Rattle.nq_descents.proofs.apart.remade_line.Goals as goal

pub returns-in_err-row : goal.returns-in_err-row
returns-in_err-row c = c.shell_row.ensures

pub returns-in_err-same : goal.returns-in_err-same
returns-in_err-same c = c.shell_row.ensures

pub returns-in_err-variable : goal.returns-in_err-variable
returns-in_err-variable c = c.shell_row.ensures

pub instance-requires : goal.instance-requires
instance-requires c = c.shell_row.ensures.grows.stands

pub returns : goal.returns
returns c = grown_trans c.args.history.now c.args.work.now c.shell_row.new.work c.instance.new.work c.shell_row.ensures c.instance.ensures
