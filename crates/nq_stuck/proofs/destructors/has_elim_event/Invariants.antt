-- The events so far.
use Rattle.std.proofs.Common.{◌≡◌, take}
use Rattle.std.specs.List.{list_any}
use Rattle.nq_bank.specs.Content.{Content}
use Rattle.nq_history.specs.Events.{all_events_at}
use Rattle.nq_stuck.specs.Destructors.{is_elim_event}
use Rattle.nq_stuck.proofs.destructors.has_elim_event.Given as goal

abbrev pub invariant-loop-entry : goal.invariant-loop-entry
invariant-loop-entry l = (bank : Content) → l.found ≡ list_any is_elim_event (all_events_at bank (take l.entry-index l.entries))
