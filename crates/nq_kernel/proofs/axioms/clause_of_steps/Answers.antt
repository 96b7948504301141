use Rattle.std.proofs.Common.{ap, ◌∙◌, reverse}
use Rattle.std.specs.Prelude.{Err}
use Rattle.nq_bank.specs.declared.node.BankFault.TheVariants.{Deep}
use Rattle.nq_bank.proofs.Standing.{passed_on}
use Rattle.nq_steps.specs.Steps.{stack_of}
use Rattle.nq_steps.proofs.MakingLemmas.{deep_reversed}
use Rattle.nq_rule.proofs.InstanceLemmas.{deep_distinct}
use Rattle.nq_kernel.proofs.AxiomLemmas.{deep_literal}
use Rattle.nq_kernel.proofs.axioms.clause_of_steps.Goals as goal

pub returns-in_err-literals-clause-deep : goal.returns-in_err-literals-clause-deep
returns-in_err-literals-clause-deep c =
    λ e.
    let came = passed_on c.from_residual.result c.in_err-literals.field-0.0 Deep c.from_residual.ensures.1 e in
    let made = stack_of c.args.bank.now c.args.steps.now in
    deep_distinct (reverse made) (deep_literal (reverse made) (deep_reversed made (c.take_steps.ensures.deep (c.in_err-literals.was ∙ ap Err came))))
