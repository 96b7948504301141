use Rattle.std.proofs.Common.{◌≡◌, drop}
use Rattle.nq_logic.specs.Names.{has_name}
use Rattle.nq_event.specs.Hints.{variables_at}
use Rattle.nq_event.proofs.usable.have_variable.Given as goal

abbrev pub invariant-loop-pair : goal.invariant-loop-pair
invariant-loop-pair l = has_name l.name (variables_at l.pairs) ≡ has_name l.name (variables_at (drop l.pair-index l.pairs))
