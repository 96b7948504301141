use Rattle.std.proofs.Common.{subst}
use Rattle.std.specs.Prelude.{IfSome}
use Rattle.nq_reduce.specs.Clauses.{LineIsIn}
use Rattle.nq_reduce.proofs.divided.part_test_of.Goals as goal

pub first_literal-requires-clause-line : goal.first_literal-requires-clause-line
first_literal-requires-clause-line c = (subst (λ o. IfSome o (LineIsIn c.args.history.now c.row_instance.new.work)) c.in-Some.is c.in_ok-line.ensures.line)
