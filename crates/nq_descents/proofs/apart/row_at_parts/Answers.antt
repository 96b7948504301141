use Rattle.nq_replay.proofs.UncountedLemmas.{grown_trans}
use Rattle.nq_descents.proofs.apart.row_at_parts.Goals as goal

pub returns-in_err-line : goal.returns-in_err-line
returns-in_err-line c = c.shell_row.ensures

pub returns-in_err-equation : goal.returns-in_err-equation
returns-in_err-equation c = c.shell_row.ensures

pub returns-in_err-taken : goal.returns-in_err-taken
returns-in_err-taken c = c.shell_row.ensures

pub returns-in_err-made : goal.returns-in_err-made
returns-in_err-made c = c.shell_row.ensures

pub returns-in_err-remade : goal.returns-in_err-remade
returns-in_err-remade c = c.shell_row.ensures

pub instance_at-requires : goal.instance_at-requires
instance_at-requires c = c.shell_row.ensures.grows.stands

pub returns : goal.returns
returns c = grown_trans c.args.history.now c.args.work.now c.shell_row.new.work c.instance_at.new.work c.shell_row.ensures c.instance_at.ensures
