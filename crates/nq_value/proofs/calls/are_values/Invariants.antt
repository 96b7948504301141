-- The terms so far are values.
use Rattle.std.proofs.Common.{◌≡◌, true, take}
use Rattle.std.specs.Prelude.{All}
use Rattle.nq_logic.specs.Values.{is_value}
use Rattle.nq_bank.specs.Content.{term_at}
use Rattle.nq_value.proofs.calls.are_values.Given as goal

abbrev pub invariant-loop-t : goal.invariant-loop-t
invariant-loop-t l = All (λ t. is_value (term_at l.bank t) ≡ true) (take l.t-index l.terms)
