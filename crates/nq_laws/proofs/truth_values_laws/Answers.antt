use Rattle.nq_laws.proofs.TruthValues.{laws_of_truth_values_hold}
use Rattle.nq_laws.proofs.truth_values_laws.Goals as goal

pub returns : goal.returns
returns c = laws_of_truth_values_hold
