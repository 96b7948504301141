use Rattle.nq_laws.proofs.AtomTests.{laws_of_atom_tests_hold}
use Rattle.nq_laws.proofs.atom_tests_laws.Goals as goal

pub returns : goal.returns
returns c = laws_of_atom_tests_hold
