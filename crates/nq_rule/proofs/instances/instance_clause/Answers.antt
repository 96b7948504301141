use Rattle.std.proofs.Common.{ap, ◌∙◌, map}
use Rattle.std.specs.Prelude.{Err}
use Rattle.nq_logic.specs.Terms.{substituted}
use Rattle.nq_bank.specs.declared.node.BankFault.TheVariants.{Deep}
use Rattle.nq_bank.specs.Content.{terms_at}
use Rattle.nq_clause.specs.Substitution.{substitution_at}
use Rattle.nq_bank.proofs.Standing.{passed_on}
use Rattle.nq_rule.proofs.InstanceLemmas.{deep_distinct}
use Rattle.nq_rule.proofs.instances.instance_clause.Goals as goal

pub returns-in_err-literals-clause-deep : goal.returns-in_err-literals-clause-deep
returns-in_err-literals-clause-deep c =
    λ e.
    let came = passed_on c.from_residual.result c.in_err-literals.field-0.0 Deep c.from_residual.ensures.1 e in
    deep_distinct (map (substituted (substitution_at c.args.bank.now c.args.pairs.now)) (terms_at c.args.bank.now c.args.terms.now)) (c.instances.ensures.deep (c.in_err-literals.was ∙ ap Err came))
