use Rattle.nq_laws.proofs.NumberTests.{laws_of_number_tests_hold}
use Rattle.nq_laws.proofs.number_tests_laws.Goals as goal

pub returns : goal.returns
returns c = laws_of_number_tests_hold
