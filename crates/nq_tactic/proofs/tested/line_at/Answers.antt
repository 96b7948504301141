use Rattle.std.proofs.Common.{sym}
use Rattle.nq_arithmetic.proofs.Lemmas.{goal_same, found_of}
use Rattle.nq_tactic.proofs.tested.line_at.Goals as goal

pub returns-then-is_told-clause-line : goal.returns-then-is_told-clause-line
returns-then-is_told-clause-line c =
    found_of c.line_of_literal.result c.line_of_literal.new.work _ _ (sym (goal_same c.args.history.now c.args.work.now c.line_of_literal.new.work c.requires.stands c.line_of_literal.ensures.grows c.args.goal.now c.requires.goal)) c.line_of_literal.ensures.line
