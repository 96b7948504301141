use Rattle.std.proofs.Common.{◌≡◌, drop}
use Rattle.std.specs.List.{list_all}
use Rattle.nq_history.specs.Events.{events_at}
use Rattle.nq_events.specs.HintRefusals.{is_usable}
use Rattle.nq_event.specs.Hints.{instances_at}
use Rattle.nq_event.proofs.usable.are_usable.Given as goal

abbrev pub invariant-loop-form : goal.invariant-loop-form
invariant-loop-form l = list_all (is_usable (events_at l.bank l.history)) (instances_at l.instances) ≡ list_all (is_usable (events_at l.bank l.history)) (instances_at (drop l.form-index l.instances))
