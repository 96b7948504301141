use Rattle.nq_laws.proofs.ListTests.{laws_of_list_tests_hold}
use Rattle.nq_laws.proofs.list_tests_laws.Goals as goal

pub returns : goal.returns
returns c = laws_of_list_tests_hold
