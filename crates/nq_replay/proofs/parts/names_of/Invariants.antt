-- The symbols of the texts so far.
use Rattle.std.proofs.Common.{◌≡◌, map, take}
use Rattle.std.specs.Prelude.{All}
use Rattle.nq_bank.specs.Content.{IsNamed}
use Rattle.nq_bank.specs.Shells.{texts_at}
use Rattle.nq_replay.specs.Uncounted.{GrowsUncounted}
use Rattle.nq_replay.proofs.parts.names_of.Given as goal

abbrev pub invariant-loop-text : goal.invariant-loop-text
invariant-loop-text l = record { grows : GrowsUncounted l.history l.fn.work l.work; named : All (IsNamed l.work.bank) l.names.items; names : texts_at l.work.bank l.names.items ≡ map (λ text. text.now) (take l.text-index l.texts) }
