-- An event that was read stands.
use Rattle.std.specs.Prelude.{Result, Ok, Err}
use Rattle.nq_bank.specs.Content.{Content}
use Rattle.nq_event.specs.declared.event.Event.{Event}
use Rattle.nq_event.specs.EventsAt.{EventStands}
use Rattle.nq_event.specs.Parsed.{IsEventOf}
use Rattle.nq_events.specs.Events as model
use Rattle.nq_events.specs.Refusals.{Refusal}

pub read_stands : (bank : Content) (read : Result model.Event Refusal) (event : Event) → IsEventOf bank read event → EventStands bank event
read_stands bank (Ok read) event h = h.0
read_stands bank (Err refusal) event h = absurd h
