-- The parts that are left decide.
use Rattle.std.proofs.Common.{◌≡◌, drop}
use Rattle.nq_bank.specs.Shells.{parts_at}
use Rattle.nq_log.specs.ClosingLines.{are_short}
use Rattle.nq_check.proofs.context.Context.are_short.Given as goal

abbrev pub invariant-loop-part : goal.invariant-loop-part
invariant-loop-part l = are_short (parts_at l.self.bank l.self.parts.items) ≡ are_short (parts_at l.self.bank (drop l.part-index l.self.parts.items))
