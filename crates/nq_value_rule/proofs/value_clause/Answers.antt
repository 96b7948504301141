use Rattle.std.proofs.Common.{Some, [], ◌∷◌, refl, ap, ◌∙◌}
use Rattle.std.specs.Prelude.{Err}
use Rattle.nq_bank.specs.declared.node.BankFault.TheVariants.{Deep}
use Rattle.nq_bank.specs.Content.{Content, term_at}
use Rattle.nq_bank.proofs.Growth.{Grows-trans, term_at-grown}
use Rattle.nq_bank.proofs.Standing.{passed_on}
use Rattle.nq_rule.specs.Conclusions.{Concludes}
use Rattle.nq_rule.proofs.Made.{for_ok}
use Rattle.nq_value_rule.specs.Equations.{value_equation}
use Rattle.nq_value_rule.proofs.ClauseLemmas.{concluded, too_deep}
use Rattle.nq_value_rule.proofs.value_clause.Goals as goal

pub returns-in_err-value-clause-deep : goal.returns-in_err-value-clause-deep
returns-in_err-value-clause-deep c =
    λ e.
    let came = passed_on c.from_residual.result c.in_err-value.field-0.0 Deep c.from_residual.ensures.1 e in
    absurd (c.its_value.ensures.not_deep (c.in_err-value.was ∙ ap Err came))

pub returns-in_err-literal-clause-deep : goal.returns-in_err-literal-clause-deep
returns-in_err-literal-clause-deep c =
    λ e.
    let old : Content = c.args.bank.now in
    let middle : Content = c.its_value.new.bank in
    let came = passed_on c.from_residual-in_err-literal.result c.in_err-literal.field-0.0 Deep c.from_residual-in_err-literal.ensures.1 e in
    let left = term_at-grown old middle c.args.t c.its_value.ensures.grows c.requires.stands in
    too_deep (term_at old c.args.t) (term_at middle c.in_ok-value.value) c.in_ok-value.ensures.ok (term_at middle c.args.t) (term_at middle c.in_ok-value.value) left refl
    (c.equation.ensures.deep (c.in_err-literal.was ∙ ap Err came))

pub returns-clause-ok : goal.returns-clause-ok
returns-clause-ok c =
    let old : Content = c.args.bank.now in
    let middle : Content = c.its_value.new.bank in
    let new : Content = c.equation.new.bank in
    let left = term_at-grown old middle c.args.t c.its_value.ensures.grows c.requires.stands in
    for_ok c.clause_of_one.result
    (λ v. Concludes new v.items (Some (term_at new c.in_ok-literal.literal ∷ [])))
    (λ v. Concludes new v.items (value_equation (term_at old c.args.t)))
    (λ v h. concluded (term_at old c.args.t) (term_at middle c.in_ok-value.value) c.in_ok-value.ensures.ok new v.items (term_at middle c.args.t) (term_at middle c.in_ok-value.value) (term_at new c.in_ok-literal.literal) left refl c.in_ok-literal.ensures.ok.denotes h)
    c.clause_of_one.ensures.ok

pub returns-clause-grows : goal.returns-clause-grows
returns-clause-grows c =
    let old : Content = c.args.bank.now in
    let middle : Content = c.its_value.new.bank in
    let new : Content = c.equation.new.bank in
    Grows-trans old middle new c.its_value.ensures.grows c.equation.ensures.grows

pub returns-in_err-literal-clause-grows : goal.returns-in_err-literal-clause-grows
returns-in_err-literal-clause-grows c =
    let old : Content = c.args.bank.now in
    let middle : Content = c.its_value.new.bank in
    let new : Content = c.equation.new.bank in
    Grows-trans old middle new c.its_value.ensures.grows c.equation.ensures.grows
