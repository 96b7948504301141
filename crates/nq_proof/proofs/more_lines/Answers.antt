use Rattle.nq_proof.proofs.Monotone.{more_lines_law}
use Rattle.nq_proof.proofs.more_lines.Goals as goal

pub returns : goal.returns
returns c = more_lines_law
