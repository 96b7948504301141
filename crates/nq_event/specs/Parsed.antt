-- What a form is parsed to.
use Rattle.std.specs.Prelude.{◌≡◌, Result, Ok, Err}
use Rattle.nq_bank.specs.Content.{Content}
use Rattle.nq_events.specs.Events as model
use Rattle.nq_events.specs.Refusals.{Refusal}
use Rattle.nq_event.specs.declared.event.Event.{Event}
use Rattle.nq_event.specs.declared.fault.EventFault.{EventFault}
use Rattle.nq_event.specs.declared.fault.EventFault.TheVariants.{Refused, Memory}
use Rattle.nq_event.specs.EventsAt.{event_at, EventStands}
use Rattle.nq_event.specs.Faults.{IsTold}

-- the event stands in the bank and is the one that was read
abbrev pub IsEventOf : Content → Result model.Event Refusal → Event → Type 0
IsEventOf bank (Ok read) event = EventStands bank event × (event_at bank event ≡ read)
IsEventOf bank (Err refusal) event = ⊥

-- the fault tells the refusal; memory may be wanting in any case
abbrev pub IsFaultOf : Result model.Event Refusal → EventFault → Type 0
IsFaultOf (Err refusal) fault = IsTold refusal fault
IsFaultOf (Ok read) (Refused code words) = ⊥
IsFaultOf (Ok read) Memory = Unit {0}
