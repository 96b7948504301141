use Rattle.nq_events.proofs.AllowedEvents.{events_are_allowed, plain_definitions}
use Rattle.nq_events.proofs.events_are_allowed.Goals as goal

pub returns-clause-conditions : goal.returns-clause-conditions
returns-clause-conditions c = events_are_allowed

pub returns-clause-definitions : goal.returns-clause-definitions
returns-clause-definitions c = plain_definitions
