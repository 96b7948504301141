-- The names so far, and then those of the numbers that are left.
use Rattle.std.proofs.Common.{◌≡◌, drop}
use Rattle.std.specs.Prelude.{All}
use Rattle.nq_bank.specs.Content.{IsNamed}
use Rattle.nq_bank.specs.Shells.{texts_at}
use Rattle.nq_log.specs.States.{variables_at}
use Rattle.nq_check.specs.Contexts.{state_of}
use Rattle.nq_check.proofs.NumberLemmas.{with_front}
use Rattle.nq_check.proofs.context.Context.variables.Given as goal

abbrev pub invariant-loop-number : goal.invariant-loop-number
invariant-loop-number l =
    (variables_at (state_of l.self).block l.numbers ≡ with_front (texts_at l.self.bank l.names.items) (variables_at (state_of l.self).block (drop l.number-index l.numbers)))
    × All (IsNamed l.self.bank) l.names.items
