-- The variables of the numbers before this one stand in the literals, in work that only grows.
use Rattle.std.proofs.Common.{◌≡◌, ◌≤◌, ◌<◌, ℕ, true}
use Rattle.nq_bank.specs.Content.{terms_at}
use Rattle.nq_kernel.specs.Growing.{WorkGrows}
use Rattle.nq_goals.specs.NewVariables.{numbered}
use Rattle.nq_moves.specs.Naming.{occurs_in_one}
use Rattle.nq_moves.proofs.numbering.next_name.Given as goal

abbrev pub invariant-loop-number : goal.invariant-loop-number
invariant-loop-number l =
    record {
      grows : WorkGrows l.history l.fn.work l.work;
      used : (k : ℕ) → l.first ≤ k → k < l.number → occurs_in_one (numbered k) (terms_at l.fn.work.bank l.literals) ≡ true;
    }
