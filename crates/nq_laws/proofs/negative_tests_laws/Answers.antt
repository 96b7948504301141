use Rattle.nq_laws.proofs.NegativeTests.{laws_of_negative_tests_hold}
use Rattle.nq_laws.proofs.negative_tests_laws.Goals as goal

pub returns : goal.returns
returns c = laws_of_negative_tests_hold
