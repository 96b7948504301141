use Rattle.nq_proof.proofs.SoundLogs.{grown}
use Rattle.nq_laws.proofs.Times.{product_distributes}
use Rattle.nq_laws.specs.Times.{product_distributes_clause}
use Rattle.nq_arith.proofs.times_laws.Goals as goal

pub returns : goal.returns
returns c = grown product_distributes_clause product_distributes
