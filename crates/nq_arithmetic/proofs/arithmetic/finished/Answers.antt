use Rattle.std.proofs.Common.{subst}
use Rattle.std.specs.Prelude.{IfSome}
use Rattle.nq_lines.specs.Lines.{LineHasOnly}
use Rattle.nq_arithmetic.proofs.Lemmas.{goal_same}
use Rattle.nq_arithmetic.proofs.arithmetic.finished.Goals as goal

pub returns-clause-line : goal.returns-clause-line
returns-clause-line c = subst (λ ts. IfSome c.checked.result (λ n. LineHasOnly c.resolved.new.work n ts)) (goal_same c.args.history.now c.args.work.now c.resolved.new.work c.requires.stands c.resolved.ensures.grows c.args.goal.now c.requires.goal) c.checked.ensures
