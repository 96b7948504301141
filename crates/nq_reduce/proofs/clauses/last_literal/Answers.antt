use Rattle.std.proofs.Common.{subst, sym}
use Rattle.std.specs.Prelude.{All}
use Rattle.nq_lines.specs.Lines.{IsTermIn}
use Rattle.nq_reduce.proofs.clauses.last_literal.Goals as goal

pub last_of-requires : goal.last_of-requires
last_of-requires c = subst (All (IsTermIn c.args.history.now c.args.work.now)) (sym c.as_slice.ensures.value) c.in_ok-literals.ensures.literals.there
