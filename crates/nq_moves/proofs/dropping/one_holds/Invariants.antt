-- The answer so far is that of the literals so far.
use Rattle.std.proofs.Common.{◌≡◌, take}
use Rattle.nq_bank.specs.Content.{terms_at}
use Rattle.nq_history.specs.Events.{events_at}
use Rattle.nq_goals.specs.Dropping.{one_holds_recursive}
use Rattle.nq_moves.proofs.dropping.one_holds.Given as goal

abbrev pub invariant-loop-t : goal.invariant-loop-t
invariant-loop-t l = l.found ≡ one_holds_recursive (events_at l.bank l.history) (terms_at l.bank (take l.t-index l.group))
