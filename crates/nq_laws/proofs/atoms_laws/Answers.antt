use Rattle.nq_laws.proofs.Atoms.{laws_of_atoms_hold}
use Rattle.nq_laws.proofs.atoms_laws.Goals as goal

pub returns : goal.returns
returns c = laws_of_atoms_hold
