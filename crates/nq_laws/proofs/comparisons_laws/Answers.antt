use Rattle.nq_laws.proofs.Comparisons.{laws_of_comparisons_hold}
use Rattle.nq_laws.proofs.comparisons_laws.Goals as goal

pub returns : goal.returns
returns c = laws_of_comparisons_hold
