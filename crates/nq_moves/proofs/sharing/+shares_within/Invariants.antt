-- The answer so far is that of the arguments so far.
use Rattle.std.proofs.Common.{◌≡◌, ◌||◌, false, take}
use Rattle.nq_bank.specs.Content.{term_at, terms_at}
use Rattle.nq_goals.specs.Dropping.{shares}
use Rattle.nq_moves.specs.Knowing.{HasAnswers}
use Rattle.nq_moves.proofs.AnswerLemmas.{any}
use Rattle.nq_moves.proofs.sharing.+shares_within.Given as goal

abbrev pub decreases-shares_within : goal.decreases-shares_within
decreases-shares_within l = l.t.0

abbrev pub invariant-loop-a : goal.invariant-loop-a
invariant-loop-a l =
    record {
      so_far : l.answer ≡ (false || any (λ x. shares x (term_at l.bank l.u)) (terms_at l.bank (take l.a-index l.a-items)));
      answers : HasAnswers l.bank (λ x. shares x (term_at l.bank l.u)) l.known;
    }
