-- The texts so far.
use Rattle.std.proofs.Common.{◌≡◌, take}
use Rattle.nq_bank.specs.Shells.{texts_at}
use Rattle.nq_block.proofs.shells.texts.Given as goal

abbrev pub invariant-loop-s : goal.invariant-loop-s
invariant-loop-s l = l.texts.items ≡ texts_at l.bank (take l.s-index l.names)
