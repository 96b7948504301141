use Rattle.std.proofs.Common.{◌≡◌, drop}
use Rattle.std.specs.List.{list_any}
use Rattle.nq_logic.specs.Names.{constant_names, has_name}
use Rattle.nq_event.specs.Hints.{variables_at}
use Rattle.nq_event.proofs.usable.have_constant.Given as goal

abbrev pub invariant-loop-pair : goal.invariant-loop-pair
invariant-loop-pair l = list_any (λ x. has_name x constant_names) (variables_at l.pairs) ≡ list_any (λ x. has_name x constant_names) (variables_at (drop l.pair-index l.pairs))
