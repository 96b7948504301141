use Rattle.nq_events.proofs.ReadTerms.{over_histories, over_definitions}
use Rattle.nq_events.proofs.terms_are_read.Goals as goal

pub returns-clause-in_history : goal.returns-clause-in_history
returns-clause-in_history c = over_histories

pub returns-clause-in_definition : goal.returns-clause-in_definition
returns-clause-in_definition c = over_definitions
