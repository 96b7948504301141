use Rattle.nq_arith.proofs.Structural.{structural_law}
use Rattle.nq_arith.proofs.structural_is_measured.Goals as goal

pub returns : goal.returns
returns c = structural_law
