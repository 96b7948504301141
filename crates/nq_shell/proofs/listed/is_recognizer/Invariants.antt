-- The name is among the recognizers that are left just where it is among all.
use Rattle.std.proofs.Common.{◌≡◌, drop}
use Rattle.nq_bank.specs.Content.{text_at}
use Rattle.nq_bank.specs.Shells.{shells_at}
use Rattle.nq_logic.specs.ShellPrinciple.{recognizers}
use Rattle.nq_logic.specs.Names.{has_name}
use Rattle.nq_shell.proofs.listed.is_recognizer.Given as goal

abbrev pub invariant-loop-shell : goal.invariant-loop-shell
invariant-loop-shell l = has_name (text_at l.bank l.name) (recognizers (shells_at l.bank (drop l.shell-index l.shells))) ≡ has_name (text_at l.bank l.name) (recognizers (shells_at l.bank l.shells))
