use Rattle.std.proofs.Common.{subst, sym}
use Rattle.std.specs.Prelude.{All}
use Rattle.nq_lines.specs.Lines.{IsTermIn}
use Rattle.nq_arithmetic.proofs.guards.is_sum.Goals as goal

pub are_refuted-requires : goal.are_refuted-requires
are_refuted-requires c = record { literals = subst (All (IsTermIn c.args.history.now c.args.work.now)) (sym c.as_slice.ensures.value) c.in_ok-all.ensures.literals }
