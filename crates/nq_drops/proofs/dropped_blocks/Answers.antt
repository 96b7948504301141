use Rattle.nq_drops.proofs.KeptClaims.{drops_keep_claim_law}
use Rattle.nq_drops.proofs.Standing.{drops_stand_law}
use Rattle.nq_drops.proofs.dropped_blocks.Goals as goal

pub returns-clause-claim : goal.returns-clause-claim
returns-clause-claim c = drops_keep_claim_law

pub returns-clause-stand : goal.returns-clause-stand
returns-clause-stand c = drops_stand_law
