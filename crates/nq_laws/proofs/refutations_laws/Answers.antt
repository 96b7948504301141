use Rattle.nq_laws.proofs.Refutations.{laws_of_refutations_hold}
use Rattle.nq_laws.proofs.refutations_laws.Goals as goal

pub returns : goal.returns
returns c = laws_of_refutations_hold
