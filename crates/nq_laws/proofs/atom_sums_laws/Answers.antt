use Rattle.nq_laws.proofs.AtomSums.{laws_of_atom_sums_hold}
use Rattle.nq_laws.proofs.atom_sums_laws.Goals as goal

pub returns : goal.returns
returns c = laws_of_atom_sums_hold
