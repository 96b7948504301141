-- The texts so far are copied.
use Rattle.std.proofs.Common.{◌≡◌, map, take}
use Rattle.nq_abbrev.proofs.refusal.copies_of.Given as goal

abbrev pub invariant-loop-text : goal.invariant-loop-text
invariant-loop-text l = map (λ word. word.items) l.words.items ≡ map (λ text. text.now) (take l.text-index l.texts)
