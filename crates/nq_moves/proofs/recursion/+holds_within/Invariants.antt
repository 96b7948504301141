-- The answer so far is that of the function and of the arguments so far.
use Rattle.std.proofs.Common.{◌≡◌, ◌||◌, take}
use Rattle.nq_bank.specs.Content.{terms_at}
use Rattle.nq_history.specs.Events.{events_at}
use Rattle.nq_goals.specs.Recursion.{holds_recursive}
use Rattle.nq_moves.specs.Knowing.{HasAnswers}
use Rattle.nq_moves.proofs.AnswerLemmas.{any}
use Rattle.nq_moves.proofs.recursion.+holds_within.Given as goal

abbrev pub decreases-holds_within : goal.decreases-holds_within
decreases-holds_within l = l.t.0

abbrev pub invariant-loop-a : goal.invariant-loop-a
invariant-loop-a l =
    record {
      so_far : l.answer ≡ (l.initial.answer || any (holds_recursive (events_at l.bank l.history)) (terms_at l.bank (take l.a-index l.a-items)));
      answers : HasAnswers l.bank (holds_recursive (events_at l.bank l.history)) l.known;
    }
