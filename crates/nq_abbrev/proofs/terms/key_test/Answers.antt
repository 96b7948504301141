use Rattle.std.proofs.Common.{sym, ap, ◌∙◌, rules}
use Rattle.std.specs.Prelude.{Option, Err, codes}
use Rattle.nq_logic.specs.Words.{equal_term}
use Rattle.nq_language.specs.Objects.{value}
use Rattle.nq_bank.specs.declared.node.TermId.{TermId}
use Rattle.nq_bank.specs.declared.node.BankFault.TheVariants.{Deep}
use Rattle.nq_bank.proofs.Standing.{passed_on}
use Rattle.nq_sexp.specs.Tree.{tree}
use Rattle.nq_abbrev.specs.Scope.{bound_term, deep_term}
use Rattle.nq_abbrev.specs.InScope.{key_term}
use Rattle.nq_abbrev.proofs.MakingLemmas.{deep_first, deep_second}
use Rattle.nq_abbrev.proofs.ScopeLemmas.{deep_is_deep}
use Rattle.nq_abbrev.proofs.TermLemmas.{makes_same}
use Rattle.nq_abbrev.proofs.terms.key_test.Goals as goal

pub returns-in_err-key-in-Some-selector-clause-right : goal.returns-in_err-key-in-Some-selector-clause-right
returns-in_err-key-in-Some-selector-clause-right c =
    λ pair.
    let x = bound_term c.args.bank.now c.args.selector in
    let k = value (tree c.in-Some.pair.first.now) in
    makes_same _ _ (equal_term x k) _ (sym (ap (key_term x) c.in-Some.ensures)) (record {
      ok = search rules;
      deep = λ e. deep_second (codes "EQUAL") x k (c.value_of.ensures.deep (c.in_err-key-in-Some-selector.was ∙ ap Err (passed_on c.from_residual.result c.in_err-key-in-Some-selector.field-0.0 Deep c.from_residual.ensures.1 e)));
    })

pub returns-in-None-selector-clause-right : goal.returns-in-None-selector-clause-right
returns-in-None-selector-clause-right c =
    λ pair.
    let x = bound_term c.args.bank.now c.args.selector in
    let k = value (tree c.in-Some.pair.first.now) in
    let same = ap (λ (o : Option TermId). equal_term (bound_term c.args.bank.now o) k) (sym c.in-None-selector.is) ∙ sym (ap (key_term x) c.in-Some.ensures) in
    makes_same _ _ (equal_term deep_term k) _ same (record { ok = tt; deep = λ e. deep_first (codes "EQUAL") deep_term k deep_is_deep })
