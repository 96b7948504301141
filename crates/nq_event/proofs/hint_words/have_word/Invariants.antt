use Rattle.std.proofs.Common.{◌≡◌, drop}
use Rattle.nq_logic.specs.Names.{has_name}
use Rattle.nq_event.specs.Hints.{words_at}
use Rattle.nq_event.proofs.hint_words.have_word.Given as goal

abbrev pub invariant-loop-hint : goal.invariant-loop-hint
invariant-loop-hint l = has_name l.word (words_at l.hints) ≡ has_name l.word (words_at (drop l.hint-index l.hints))
