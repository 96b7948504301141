-- The first that is unknown is in the parts that are left.
use Rattle.std.proofs.Common.{◌≡◌, drop}
use Rattle.nq_bank.specs.Shells.{parts_at, shell_at, shells_at}
use Rattle.nq_logic.specs.ShellPrinciple.{known_recognizers, first_unknown}
use Rattle.nq_shell.proofs.admission.unknown_recognizer.Given as goal

abbrev pub invariant-loop-part : goal.invariant-loop-part
invariant-loop-part l = first_unknown (known_recognizers (shells_at l.bank l.history) (shell_at l.bank l.shell)) (parts_at l.bank (drop l.part-index l.shell.parts.items)) ≡ first_unknown (known_recognizers (shells_at l.bank l.history) (shell_at l.bank l.shell)) (parts_at l.bank l.shell.parts.items)
