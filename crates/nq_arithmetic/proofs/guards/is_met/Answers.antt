use Rattle.nq_arithmetic.proofs.Lemmas.{all_grown}
use Rattle.nq_arithmetic.proofs.guards.is_met.Goals as goal

pub is_claim_met-requires-clause-literals : goal.is_claim_met-requires-clause-literals
is_claim_met-requires-clause-literals c = all_grown c.args.history.now c.args.work.now c.claim_at.new.work c.requires.stands c.claim_at.ensures.grows c.args.literals.now c.requires.literals
