use Rattle.nq_log.proofs.RightClaims.{right_claims_law, narrow_claims_law}
use Rattle.nq_log.proofs.right_claims.Goals as goal

pub returns : goal.returns
returns c = record { right = right_claims_law c.full_soundness.ensures; narrow = narrow_claims_law c.full_soundness.ensures }
