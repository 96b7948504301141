use Rattle.std.proofs.Common.{subst}
use Rattle.std.specs.Prelude.{IfSome}
use Rattle.nq_bank.specs.Content.{terms_at}
use Rattle.nq_kernel.specs.Growing.{LineStands}
use Rattle.nq_lines.specs.Lines.{LineHasOnly}
use Rattle.nq_arithmetic.proofs.Lemmas.{goal_same}
use Rattle.nq_arithmetic.proofs.kinds.by_number.Goals as goal

pub checked-requires-clause-line : goal.checked-requires-clause-line
checked-requires-clause-line c = subst (λ o. IfSome o (λ n. LineStands c.number_line.new.work n)) c.in-Some.is c.in_ok-line.ensures.line

pub returns-in-Some-clause-line : goal.returns-in-Some-clause-line
returns-in-Some-clause-line c = subst (λ ts. IfSome c.checked.result (λ n. LineHasOnly c.number_line.new.work n ts)) (goal_same c.args.history.now c.args.work.now c.number_line.new.work c.requires.stands c.number_line.ensures.grows c.args.goal.now c.requires.goal) c.checked.ensures
