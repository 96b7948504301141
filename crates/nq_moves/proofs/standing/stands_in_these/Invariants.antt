-- The answer so far is that of the terms so far.
use Rattle.std.proofs.Common.{◌≡◌, take}
use Rattle.nq_bank.specs.Content.{term_at, terms_at}
use Rattle.nq_goals.specs.Replacing.{stands_in, stands_in_one}
use Rattle.nq_moves.specs.Knowing.{HasAnswers}
use Rattle.nq_moves.proofs.standing.stands_in_these.Given as goal

abbrev pub invariant-loop-t : goal.invariant-loop-t
invariant-loop-t l =
    record {
      so_far : l.found ≡ stands_in_one (term_at l.bank l.a) (terms_at l.bank (take l.t-index l.these));
      answers : HasAnswers l.bank (stands_in (term_at l.bank l.a)) l.known;
    }
