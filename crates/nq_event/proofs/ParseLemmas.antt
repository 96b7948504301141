-- The reading of a form, by its outline.
use Rattle.std.proofs.Common.{◌≡◌, sym, ap, subst}
use Rattle.std.specs.Prelude.{Option, Result, Ok, Err, IfOk, IfErr}
use Rattle.nq_logic.specs.Histories.{History}
use Rattle.nq_form.specs.Form.{Form}
use Rattle.nq_bank.specs.Content.{Content}
use Rattle.nq_events.specs.Events as model
use Rattle.nq_events.specs.Refusals.{Refusal}
use Rattle.nq_events.specs.Outlines.{Outlined, outline}
use Rattle.nq_events.specs.Reading.{event_after, event_of, event_refusal, reading, refusal_after, unless_refused}
use Rattle.nq_event.specs.declared.event.Event.{Event}
use Rattle.nq_event.specs.declared.fault.EventFault.{EventFault}
use Rattle.nq_event.specs.EventsAt.{event_at, EventStands}
use Rattle.nq_event.specs.Faults.{IsTold}
use Rattle.nq_event.specs.Parsed.{IsEventOf, IsFaultOf}
use Rattle.nq_event.specs.Readings.{IsReadAs, IsToldOf}
use Rattle.nq_event.proofs.EventLemmas.{fault_promised}

-- the reading of a form with this outline
reading_by : (h : History) (form : Form) (o : Outlined) → o ≡ outline form → unless_refused (refusal_after h o) (event_after h o) ≡ reading h form
unfolding event_refusal event_of
reading_by h form o e = ap (λ z. unless_refused (refusal_after h z) (event_after h z)) e

module _ (h : History) (form : Form) where
  is_event : (bank : Content) (r : Option Refusal) (meant : model.Event) (event : Event) → IsReadAs (EventStands bank) (event_at bank) r meant event → IsEventOf bank (unless_refused r meant) event
  is_event bank r meant event read = subst (λ z. IsEventOf bank (unless_refused z meant) event) (sym read.unrefused) (read.stands, read.is)

  pub event_parsed : (bank : Content) (o : Outlined) (result : Result Event EventFault) → o ≡ outline form → IfOk result (IsReadAs (EventStands bank) (event_at bank) (refusal_after h o) (event_after h o)) → IfOk result (IsEventOf bank (reading h form))
  event_parsed bank o (Ok event) e read = subst (λ z. IsEventOf bank z event) (reading_by h form o e) (is_event bank (refusal_after h o) (event_after h o) event read)
  event_parsed bank o (Err fault) e read = tt

  pub fault_parsed : (o : Outlined) (result : Result Event EventFault) → o ≡ outline form → IfErr result (IsToldOf (refusal_after h o)) → IfErr result (IsFaultOf (reading h form))
  fault_parsed o (Ok event) e told = tt
  fault_parsed o (Err fault) e told = subst (λ z. IsFaultOf z fault) (reading_by h form o e) (fault_promised (refusal_after h o) (event_after h o) fault told)

  pub refusal_parsed : (refusal : Refusal) (fault : EventFault) → Err refusal ≡ outline form → IsTold refusal fault → IsFaultOf (reading h form) fault
  refusal_parsed refusal fault e told = subst (λ z. IsFaultOf z fault) (reading_by h form (Err refusal) e) told
