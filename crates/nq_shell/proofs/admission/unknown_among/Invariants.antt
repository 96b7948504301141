-- The first that is unknown is among those that are left.
use Rattle.std.proofs.Common.{◌≡◌, drop}
use Rattle.nq_bank.specs.Shells.{texts_at, shell_at, shells_at}
use Rattle.nq_logic.specs.ShellPrinciple.{known_recognizers, first_outside}
use Rattle.nq_shell.proofs.admission.unknown_among.Given as goal

abbrev pub invariant-loop-name : goal.invariant-loop-name
invariant-loop-name l = first_outside (known_recognizers (shells_at l.bank l.history) (shell_at l.bank l.shell)) (texts_at l.bank (drop l.name-index l.names)) ≡ first_outside (known_recognizers (shells_at l.bank l.history) (shell_at l.bank l.shell)) (texts_at l.bank l.names)
