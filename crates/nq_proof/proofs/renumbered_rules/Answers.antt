use Rattle.nq_proof.proofs.Renumbered.{renumbered_law}
use Rattle.nq_proof.proofs.renumbered_rules.Goals as goal

pub returns : goal.returns
returns c = renumbered_law
