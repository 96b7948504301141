use Rattle.nq_logic.specs.Histories.{Shell}
use Rattle.nq_bank.specs.Content.{Content}
use Rattle.nq_bank.specs.Shells.{shell_at, shells_at}
use Rattle.nq_shell.proofs.Acceptance.{acceptance_told, refusal_told}
use Rattle.nq_shell.proofs.admission.admit_shell.Goals as goal

pub returns-clause-ok : goal.returns-clause-ok
returns-clause-ok c =
    λ in_use agree.
    let bank : Content = c.args.bank.now in
    let s : Shell = shell_at bank c.args.shell.now in
    let is = refusal_told bank c.args.used.now in_use (shells_at bank c.args.history.now) s c.first_fault.result agree c.first_fault.ensures in
    acceptance_told bank in_use c.args.history.now s c.first_fault.result is

pub returns-clause-refusal : goal.returns-clause-refusal
returns-clause-refusal c =
    λ in_use agree.
    let bank : Content = c.args.bank.now in
    refusal_told bank c.args.used.now in_use (shells_at bank c.args.history.now) (shell_at bank c.args.shell.now) c.first_fault.result agree c.first_fault.ensures
