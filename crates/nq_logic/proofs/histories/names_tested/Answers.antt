use Rattle.nq_logic.proofs.Tests.{names_found_law, names_within_law, names_distinct_law}
use Rattle.nq_logic.proofs.histories.names_tested.Goals as goal

pub returns-clause-found : goal.returns-clause-found
returns-clause-found c = names_found_law

pub returns-clause-within : goal.returns-clause-within
returns-clause-within c = names_within_law

pub returns-clause-distinct : goal.returns-clause-distinct
returns-clause-distinct c = names_distinct_law
