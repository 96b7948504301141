use Rattle.std.proofs.Common.{◌≡◌, map, drop}
use Rattle.nq_logic.specs.Terms.{value_at}
use Rattle.nq_bank.specs.Content.{text_at}
use Rattle.nq_event.specs.EventsAt.{pair_at}
use Rattle.nq_event.proofs.replaced.value_of.Given as goal

abbrev pub invariant-loop-pair : goal.invariant-loop-pair
invariant-loop-pair l = value_at (map (pair_at l.bank) l.pairs) (text_at l.bank l.variable) ≡ value_at (map (pair_at l.bank) (drop l.pair-index l.pairs)) (text_at l.bank l.variable)
