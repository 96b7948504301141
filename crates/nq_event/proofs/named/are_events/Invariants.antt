use Rattle.std.proofs.Common.{◌≡◌, drop}
use Rattle.std.specs.List.{list_all}
use Rattle.nq_history.specs.Events.{events_at}
use Rattle.nq_events.specs.HintRefusals.{is_event}
use Rattle.nq_event.specs.Shapes.{names_at}
use Rattle.nq_event.proofs.named.are_events.Given as goal

abbrev pub invariant-loop-name : goal.invariant-loop-name
invariant-loop-name l = list_all (is_event (events_at l.bank l.history)) (names_at l.names) ≡ list_all (is_event (events_at l.bank l.history)) (names_at (drop l.name-index l.names))
