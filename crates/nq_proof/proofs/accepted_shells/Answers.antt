use Rattle.nq_proof.proofs.AcceptedShells.{accepted_law}
use Rattle.nq_proof.proofs.accepted_shells.Goals as goal

pub returns : goal.returns
returns c = accepted_law
