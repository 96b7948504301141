-- The first shell with this base is among those that are left.
use Rattle.std.proofs.Common.{◌≡◌, drop}
use Rattle.nq_bank.specs.Content.{text_at}
use Rattle.nq_bank.specs.Shells.{shells_at}
use Rattle.nq_logic.specs.ShellPrinciple.{kind_of_base}
use Rattle.nq_shell.proofs.admission.kind_of_earlier_base.Given as goal

abbrev pub invariant-loop-shell : goal.invariant-loop-shell
invariant-loop-shell l = kind_of_base (text_at l.bank l.name) (shells_at l.bank (drop l.shell-index l.history)) ≡ kind_of_base (text_at l.bank l.name) (shells_at l.bank l.history)
