-- The answer so far is that of the term and of the arguments so far.
use Rattle.std.proofs.Common.{◌≡◌, ◌||◌, take}
use Rattle.nq_bank.specs.Content.{term_at, terms_at}
use Rattle.nq_normal.specs.Sought.{seeks, HasAnswers}
use Rattle.nq_normal.proofs.Walks.{any_open}
use Rattle.nq_normal.proofs.open.+has_open.Given as goal

abbrev pub decreases-has_open : goal.decreases-has_open
decreases-has_open l = l.t.0

abbrev pub invariant-loop-a : goal.invariant-loop-a
invariant-loop-a l =
    record {
      so_far : l.answer ≡ (seeks l.bank l.sought (term_at l.bank l.t) || any_open (seeks l.bank l.sought) (terms_at l.bank (take l.a-index l.a-items)));
      answers : HasAnswers l.bank (seeks l.bank l.sought) l.known;
    }
