-- The answer so far is that of the arguments so far.
use Rattle.std.proofs.Common.{◌≡◌, take}
use Rattle.nq_bank.specs.Content.{text_at, terms_at}
use Rattle.nq_clause.specs.Occurrence.{HasAnswers}
use Rattle.nq_clause.proofs.OccurrenceLemmas.{occurs_in_any}
use Rattle.nq_clause.proofs.occurrence.+occurs_within.Given as goal

abbrev pub decreases-occurs_within : goal.decreases-occurs_within
decreases-occurs_within l = l.t.0

abbrev pub invariant-loop-a : goal.invariant-loop-a
invariant-loop-a l =
    record {
      so_far : l.answer ≡ occurs_in_any (text_at l.bank l.variable) (terms_at l.bank (take l.a-index l.a-items));
      answers : HasAnswers l.bank (text_at l.bank l.variable) l.known;
    }
