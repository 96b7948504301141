-- The literals that are left give what all of them give.
use Rattle.std.proofs.Common.{◌≡◌, drop}
use Rattle.nq_bank.specs.Content.{terms_at}
use Rattle.nq_history.specs.Events.{events_at}
use Rattle.nq_goals.specs.Dropping.{droppings_from}
use Rattle.nq_moves.proofs.dropping.find_group.Given as goal

abbrev pub invariant-loop-t : goal.invariant-loop-t
invariant-loop-t l = droppings_from (events_at l.bank l.history) (terms_at l.bank l.goal) (terms_at l.bank (drop l.t-index l.goal)) ≡ droppings_from (events_at l.bank l.history) (terms_at l.bank l.goal) (terms_at l.bank l.goal)
