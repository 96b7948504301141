-- The name is among the accessors that are left just where it is among all.
use Rattle.std.proofs.Common.{◌≡◌, drop}
use Rattle.nq_bank.specs.Content.{text_at}
use Rattle.nq_bank.specs.Shells.{parts_at}
use Rattle.nq_logic.specs.Names.{has_name}
use Rattle.nq_shell.specs.Admission.{accessors}
use Rattle.nq_shell.proofs.listed.is_accessor.Given as goal

abbrev pub invariant-loop-part : goal.invariant-loop-part
invariant-loop-part l = has_name (text_at l.bank l.name) (accessors (parts_at l.bank (drop l.part-index l.parts))) ≡ has_name (text_at l.bank l.name) (accessors (parts_at l.bank l.parts))
