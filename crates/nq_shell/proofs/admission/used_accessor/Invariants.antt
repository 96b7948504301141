-- The first that is in use is among those that are left.
use Rattle.std.proofs.Common.{◌≡◌, drop}
use Rattle.nq_bank.specs.Shells.{parts_at}
use Rattle.nq_logic.specs.ShellPrinciple.{first_used}
use Rattle.nq_shell.specs.Admission.{accessors, is_used}
use Rattle.nq_shell.proofs.admission.used_accessor.Given as goal

abbrev pub invariant-loop-part : goal.invariant-loop-part
invariant-loop-part l = first_used (is_used l.bank l.used) (accessors (parts_at l.bank (drop l.part-index l.parts))) ≡ first_used (is_used l.bank l.used) (accessors (parts_at l.bank l.parts))
