-- The terms so far, and then those of the numbers that are left.
use Rattle.std.proofs.Common.{◌≡◌, drop}
use Rattle.std.specs.Prelude.{All}
use Rattle.nq_bank.specs.Content.{Stands, terms_at}
use Rattle.nq_log.specs.States.{terms_at as terms_of_block}
use Rattle.nq_check.specs.Contexts.{state_of}
use Rattle.nq_check.proofs.NumberLemmas.{with_front}
use Rattle.nq_check.proofs.context.Context.terms.Given as goal

abbrev pub invariant-loop-number : goal.invariant-loop-number
invariant-loop-number l =
    (terms_of_block (state_of l.self).block l.numbers ≡ with_front (terms_at l.self.bank l.terms.items) (terms_of_block (state_of l.self).block (drop l.number-index l.numbers)))
    × All (Stands l.self.bank) l.terms.items
