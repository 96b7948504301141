use Rattle.nq_bank.specs.Content.{Content}
use Rattle.nq_bank.specs.Shells.{shell_at, shells_at}
use Rattle.nq_steps.proofs.StackLemmas.{if_ok}
use Rattle.nq_shell.proofs.AxiomRows.{axiom_of}
use Rattle.nq_shell.proofs.axioms.shell_axiom.Goals as goal

pub returns-clause-axiom : goal.returns-clause-axiom
returns-clause-axiom c =
    let old : Content = c.args.bank.now in
    if_ok c.clause_in_table.result (λ o e. axiom_of (shells_at old c.args.earlier.now) (shell_at old c.args.shell.now) c.clause_in_table.new.bank c.args.row c.args.i o e) c.clause_in_table.ensures.clause
