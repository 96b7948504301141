use Rattle.std.proofs.Common.{subst, sym}
use Rattle.std.specs.Prelude.{All}
use Rattle.nq_lines.specs.Lines.{IsTermIn}
use Rattle.nq_reduce.proofs.divided.first_literal.Goals as goal

pub first_of-requires : goal.first_of-requires
first_of-requires c = subst (All (IsTermIn c.args.history.now c.args.work.now)) (sym c.as_slice.ensures.value) c.in_ok-literals.ensures.literals.there
