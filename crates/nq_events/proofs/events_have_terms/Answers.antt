use Rattle.nq_events.proofs.EventTerms.{events_have_terms}
use Rattle.nq_events.proofs.events_have_terms.Goals as goal

pub returns : goal.returns
returns c = events_have_terms
