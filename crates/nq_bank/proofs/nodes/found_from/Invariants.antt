use Rattle.std.proofs.Common.{◌≡◌, ◌<◌, ◌-◌, length}
use Rattle.nq_table.specs.Tables.{found_from}
use Rattle.nq_bank.specs.Places.{is_at}
use Rattle.nq_bank.proofs.nodes.found_from.Given as goal

abbrev pub invariant-loop-step : goal.invariant-loop-step
invariant-loop-step l = (l.place < length l.places) × (found_from (is_at l.pages l.fn.node l.arguments) l.places (length l.places) l.start ≡ found_from (is_at l.pages l.fn.node l.arguments) l.places (length l.places - l.step) l.place)
