-- The answer so far is that of the call and of the arguments so far.
use Rattle.std.proofs.Common.{◌≡◌, ◌||◌, take}
use Rattle.nq_bank.specs.Content.{term_at, terms_at}
use Rattle.nq_history.specs.Events.{events_at}
use Rattle.nq_events.specs.Inductions.{suggests_induction}
use Rattle.nq_normal.specs.Suggesting.{HasSuggestions}
use Rattle.nq_normal.proofs.SuggestingLemmas.{any_suggesting}
use Rattle.nq_normal.proofs.suggesting.+has_suggesting.Given as goal

abbrev pub decreases-has_suggesting : goal.decreases-has_suggesting
decreases-has_suggesting l = l.t.0

abbrev pub invariant-loop-a : goal.invariant-loop-a
invariant-loop-a l =
    record {
      so_far :
          l.answer
          ≡ (suggests_induction (events_at l.bank l.history) (term_at l.bank l.t) || any_suggesting (events_at l.bank l.history) (terms_at l.bank (take l.a-index l.a-items)));
      answers : HasSuggestions l.bank (events_at l.bank l.history) l.known;
    }
