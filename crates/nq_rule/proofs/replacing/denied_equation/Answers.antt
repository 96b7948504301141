use Rattle.std.proofs.Common.{◌∷◌, [], ap, ◌∙◌, arith}
use Rattle.std.specs.Prelude.{Err, codes}
use Rattle.nq_logic.specs.Terms.{Function}
use Rattle.nq_logic.specs.Words.{equal_term}
use Rattle.nq_bank.specs.declared.node.BankFault.TheVariants.{Deep}
use Rattle.nq_bank.specs.Content.{Content, term_at}
use Rattle.nq_bank.proofs.Standing.{passed_on}
use Rattle.nq_bank.proofs.DeepLemmas.{deep_argument}
use Rattle.nq_rule.proofs.replacing.denied_equation.Goals as goal

pub returns-in_err-equation-clause-deep : goal.returns-in_err-equation-clause-deep
returns-in_err-equation-clause-deep c =
    λ e.
    let old : Content = c.args.bank.now in
    let came = passed_on c.from_residual.result c.in_err-equation.field-0.0 Deep c.from_residual.ensures.1 e in
    deep_argument (codes "NOT") (equal_term (term_at old c.args.left) (term_at old c.args.right) ∷ []) 0 (Function []) (omega arith) (c.ground_call.ensures.deep (c.in_err-equation.was ∙ ap Err came))
