use Rattle.std.proofs.Common.{◌≡◌, length}
use Rattle.nq_events.specs.HintRefusals.{stands_twice}
use Rattle.nq_event.specs.Hints.{words_at}
use Rattle.nq_event.proofs.hint_words.stands_twice.Given as goal

abbrev pub decreases-loop-rest : goal.decreases-loop-rest
decreases-loop-rest l = length l.rest

abbrev pub invariant-loop-rest : goal.invariant-loop-rest
invariant-loop-rest l = stands_twice l.word (words_at l.initial.rest) ≡ stands_twice l.word (words_at l.rest)
