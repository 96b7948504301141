use Rattle.std.proofs.Common.{ap, ◌∙◌}
use Rattle.std.specs.Prelude.{Err, codes}
use Rattle.nq_logic.specs.Words.{numerals}
use Rattle.nq_bank.specs.declared.node.BankFault.TheVariants.{Deep}
use Rattle.nq_bank.proofs.Standing.{passed_on}
use Rattle.nq_abbrev.proofs.MakingLemmas.{deep_only}
use Rattle.nq_abbrev.proofs.making.atom.Goals as goal

pub returns-in_err-list-clause-deep : goal.returns-in_err-list-clause-deep
returns-in_err-list-clause-deep c =
    λ e.
    let came = passed_on c.from_residual.result c.in_err-list.field-0.0 Deep c.from_residual.ensures.1 e in
    deep_only (codes "PACK") (numerals c.args.name.now) (c.codes_of.ensures.deep (c.in_err-list.was ∙ ap Err came))
