use Rattle.std.proofs.Common.{sym}
use Rattle.nq_arithmetic.proofs.Lemmas.{goal_same, found_of}
use Rattle.nq_tactic.proofs.arithmetic.line_of_number.Goals as goal

pub returns-clause-line : goal.returns-clause-line
returns-clause-line c =
    found_of c.kind_line.result c.kind_line.new.work _ _ (sym (goal_same c.args.history.now c.args.work.now c.kind_line.new.work c.requires.stands c.kind_line.ensures.grows c.args.goal.now c.requires.goal)) c.kind_line.ensures.line
