use Rattle.nq_laws.proofs.AtomRows.{laws_of_atom_rows_hold}
use Rattle.nq_laws.proofs.atom_rows_laws.Goals as goal

pub returns : goal.returns
returns c = laws_of_atom_rows_hold
