use Rattle.std.proofs.Common.{subst}
use Rattle.std.specs.Prelude.{IfSome}
use Rattle.nq_reduce.specs.Clauses.{LineIsIn}
use Rattle.nq_reduce.proofs.restricted.default_by_row.Goals as goal

pub last_literal-requires-clause-line : goal.last_literal-requires-clause-line
last_literal-requires-clause-line c = (subst (λ o. IfSome o (LineIsIn c.args.history.now c.row_instance.new.work)) c.in-Some.is c.in_ok-line.ensures.line)
