-- The answer so far is that of the arguments so far.
use Rattle.std.proofs.Common.{◌≡◌, ◌||◌, false, take}
use Rattle.nq_bank.specs.Content.{term_at, terms_at}
use Rattle.nq_goals.specs.Replacing.{stands_in}
use Rattle.nq_moves.specs.Knowing.{HasAnswers}
use Rattle.nq_moves.proofs.AnswerLemmas.{any}
use Rattle.nq_moves.proofs.standing.+stands_at.Given as goal

abbrev pub decreases-stands_at : goal.decreases-stands_at
decreases-stands_at l = l.t.0

abbrev pub invariant-loop-u : goal.invariant-loop-u
invariant-loop-u l =
    record {
      so_far : l.answer ≡ (false || any (stands_in (term_at l.bank l.a)) (terms_at l.bank (take l.u-index l.u-items)));
      answers : HasAnswers l.bank (stands_in (term_at l.bank l.a)) l.known;
    }
