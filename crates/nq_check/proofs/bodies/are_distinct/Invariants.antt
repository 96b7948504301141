-- The names that are left decide.
use Rattle.std.proofs.Common.{◌≡◌, drop}
use Rattle.nq_logic.specs.Names.{are_distinct}
use Rattle.nq_bank.specs.Shells.{texts_at}
use Rattle.nq_check.proofs.bodies.are_distinct.Given as goal

abbrev pub invariant-loop-i : goal.invariant-loop-i
invariant-loop-i l = are_distinct (texts_at l.bank l.names) ≡ are_distinct (texts_at l.bank (drop l.i l.names))
