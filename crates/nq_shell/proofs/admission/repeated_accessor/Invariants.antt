-- The first that stands twice is among those that are left.
use Rattle.std.proofs.Common.{◌≡◌, drop}
use Rattle.nq_bank.specs.Shells.{parts_at}
use Rattle.nq_logic.specs.ShellPrinciple.{first_repeated}
use Rattle.nq_shell.specs.Admission.{accessors}
use Rattle.nq_shell.proofs.admission.repeated_accessor.Given as goal

abbrev pub invariant-loop-i : goal.invariant-loop-i
invariant-loop-i l = first_repeated (accessors (parts_at l.bank (drop l.i l.parts))) ≡ first_repeated (accessors (parts_at l.bank l.parts))
