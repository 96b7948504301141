use Rattle.std.proofs.Common.{ap, subst, ◌∙◌}
use Rattle.std.specs.Prelude.{Err}
use Rattle.nq_bank.specs.declared.node.BankFault.TheVariants.{Deep}
use Rattle.nq_bank.specs.Content.{Content}
use Rattle.nq_bank.proofs.Standing.{passed_on}
use Rattle.nq_bank.specs.Shells.{shell_at, shells_at}
use Rattle.nq_proof.specs.Rows.{shell_clause_at, shell_row}
use Rattle.nq_steps.specs.Steps.{stack_of, HasDeep}
use Rattle.nq_shell.proofs.DeepLiterals.{deep_drafted, shallow_drafted}
use Rattle.nq_shell.proofs.axioms.clause_in_table.Goals as goal

pub returns-in_err-clause-clause-deep : goal.returns-in_err-clause-clause-deep
returns-in_err-clause-clause-deep c =
    λ e.
    let bank : Content = c.args.bank.now in
    let table = shell_clause_at (shells_at bank c.args.earlier.now) (shell_at bank c.args.shell.now) c.args.i (shell_row c.args.row) in
    let came = passed_on c.from_residual.result c.in_err-clause.field-0.0 Deep c.from_residual.ensures.1 e in
    let deep = c.take_steps.ensures.deep (c.in_err-clause.was ∙ ap Err came) in
    deep_drafted c.in-Ok.there (stack_of bank c.put_row.new.steps.items) table c.if-not-there.false c.in-Ok.ensures.makes (subst (λ steps. HasDeep (stack_of bank steps)) c.as_slice.ensures.value deep)

pub returns-clause-shallow : goal.returns-clause-shallow
returns-clause-shallow c =
    let bank : Content = c.args.bank.now in
    let table = shell_clause_at (shells_at bank c.args.earlier.now) (shell_at bank c.args.shell.now) c.args.i (shell_row c.args.row) in
    let none = subst (λ steps. HasDeep (stack_of bank steps) → ⊥) c.as_slice.ensures.value c.in_ok-clause.ensures.shallow in
    shallow_drafted c.in-Ok.there (stack_of bank c.put_row.new.steps.items) table c.in-Ok.ensures.makes none
