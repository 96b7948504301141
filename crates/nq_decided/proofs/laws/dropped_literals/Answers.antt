use Rattle.nq_decided.proofs.DroppedLiterals.{literals_are_dropped}
use Rattle.nq_decided.proofs.laws.dropped_literals.Goals as goal

pub returns : goal.returns
returns c = literals_are_dropped
