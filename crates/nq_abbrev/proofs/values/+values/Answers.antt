use Rattle.std.proofs.Common.{refl, ap, sym, ◌∙◌, ◌<◌, subst}
use Rattle.std.specs.Prelude.{Err, IfOk, None, Some}
use Rattle.nq_logic.specs.Terms.{Term}
use Rattle.nq_logic.specs.Words.{call2}
use Rattle.nq_logic.specs.Sizes.{depth_of, depth_limit}
use Rattle.nq_language.specs.Objects.{value}
use Rattle.nq_bank.specs.Content.{IsIdOf, term_at}
use Rattle.nq_bank.specs.declared.node.BankFault.TheVariants.{Deep}
use Rattle.nq_bank.proofs.Growth.{term_at-grown}
use Rattle.nq_bank.proofs.Standing.{passed_on}
use Rattle.nq_sexp.specs.Tree.{tree}
use Rattle.nq_abbrev.proofs.ValueLemmas.{end_value, dotted_value, list_value, quote_value, deep_last, deep_before, deep_item, deep_quoted}
use Rattle.nq_abbrev.proofs.values.+values.Goals as goal

pub value_of-returns-in_err-object-in-Quote-clause-deep : goal.value_of-returns-in_err-object-in-Quote-clause-deep
value_of-returns-in_err-object-in-Quote-clause-deep t c =
    λ e.
    let came = passed_on c.from_residual.result c.in_err-object-in-Quote.field-0.0 Deep c.from_residual.ensures.1 e in
    let deep = c.value_of.ensures.deep (c.in_err-object-in-Quote.was ∙ ap Err came) in
    let object = value (tree c.in-Quote.inner.now) in
    subst (λ (t : Term). depth_limit < depth_of t) (quote_value c.args.form.now c.in-Quote.inner object c.in-Quote.is refl) (deep_quoted object deep)

pub value_of-returns-in_err-last-in-Some-clause-deep : goal.value_of-returns-in_err-last-in-Some-clause-deep
value_of-returns-in_err-last-in-Some-clause-deep t c =
    λ e.
    let came = passed_on c.from_residual-in_err-last-in-Some.result c.in_err-last-in-Some.field-0.0 Deep c.from_residual-in_err-last-in-Some.ensures.1 e in
    let deep = c.value_of-in-Some.ensures.deep (c.in_err-last-in-Some.was ∙ ap Err came) in
    let last = value (tree c.in-Some.tail.now) in
    let whole = list_value c.args.form.now c.in-List.items c.in-List.tail (Some c.in-Some.tail) last c.in-List.is c.in-Some.is (sym (dotted_value (tree c.in-Some.tail.now))) in
    subst (λ (t : Term). depth_limit < depth_of t) whole (deep_last c.in-List.items.now last deep)

pub value_of-returns-in_ok-last-in-None-clause-ok : goal.value_of-returns-in_ok-last-in-None-clause-ok
value_of-returns-in_ok-last-in-None-clause-ok t c =
    let whole = list_value c.args.form.now c.in-List.items c.in-List.tail None (term_at c.nil-in-None.new.bank c.in_ok-last-in-None.last) c.in-List.is c.in-None.is (c.in_ok-last-in-None.ensures.ok.denotes ∙ sym end_value) in
    subst (λ (t : Term). IfOk c.values_before.result (λ r. IsIdOf c.values_before.new.bank r t)) whole c.values_before.ensures.ok

pub value_of-returns-in_ok-last-in-None-clause-deep : goal.value_of-returns-in_ok-last-in-None-clause-deep
value_of-returns-in_ok-last-in-None-clause-deep t c =
    λ e.
    let whole = list_value c.args.form.now c.in-List.items c.in-List.tail None (term_at c.nil-in-None.new.bank c.in_ok-last-in-None.last) c.in-List.is c.in-None.is (c.in_ok-last-in-None.ensures.ok.denotes ∙ sym end_value) in
    subst (λ (t : Term). depth_limit < depth_of t) whole (c.values_before.ensures.deep e)

pub value_of-returns-in_ok-last-in-Some-clause-ok : goal.value_of-returns-in_ok-last-in-Some-clause-ok
value_of-returns-in_ok-last-in-Some-clause-ok t c =
    let whole = list_value c.args.form.now c.in-List.items c.in-List.tail (Some c.in-Some.tail) (term_at c.value_of-in-Some.new.bank c.in_ok-last-in-Some.last) c.in-List.is c.in-Some.is (c.in_ok-last-in-Some.ensures.ok.denotes ∙ sym (dotted_value (tree c.in-Some.tail.now))) in
    subst (λ (t : Term). IfOk c.values_before-in-Some.result (λ r. IsIdOf c.values_before-in-Some.new.bank r t)) whole c.values_before-in-Some.ensures.ok

pub value_of-returns-in_ok-last-in-Some-clause-deep : goal.value_of-returns-in_ok-last-in-Some-clause-deep
value_of-returns-in_ok-last-in-Some-clause-deep t c =
    λ e.
    let whole = list_value c.args.form.now c.in-List.items c.in-List.tail (Some c.in-Some.tail) (term_at c.value_of-in-Some.new.bank c.in_ok-last-in-Some.last) c.in-List.is c.in-Some.is (c.in_ok-last-in-Some.ensures.ok.denotes ∙ sym (dotted_value (tree c.in-Some.tail.now))) in
    subst (λ (t : Term). depth_limit < depth_of t) whole (c.values_before-in-Some.ensures.deep e)

pub values_before-returns-in_err-first-clause-deep : goal.values_before-returns-in_err-first-clause-deep
values_before-returns-in_err-first-clause-deep t c =
    λ e.
    let came = passed_on c.from_residual.result c.in_err-first.field-0.0 Deep c.from_residual.ensures.1 e in
    let deep = c.value_of.ensures.deep (c.in_err-first.was ∙ ap Err came) in
    deep_item c.args.items.now c.loop-place.place c.index-items-place.result (term_at c.args.bank.now c.args.last) c.loop-place-test.true c.loop-place.invariant.within c.index-items-place.is deep

pub values_before-returns-in_err-list-clause-deep : goal.values_before-returns-in_err-list-clause-deep
values_before-returns-in_err-list-clause-deep t c =
    λ e.
    let came = passed_on c.from_residual-in_err-list.result c.in_err-list.field-0.0 Deep c.from_residual-in_err-list.ensures.1 e in
    let deep = c.call_two.ensures.deep (c.in_err-list.was ∙ ap Err came) in
    let bank = c.value_of.new.bank in
    let last = term_at c.args.bank.now c.args.last in
    let x = c.index-items-place.result in
    let first = c.in_ok-first.ensures.ok.denotes in
    let rest = term_at-grown c.loop-place.bank bank c.loop-place.list c.in_ok-first.ensures.grows c.loop-place.invariant.list.stands ∙ c.loop-place.invariant.list.denotes in
    let same = ap (λ (t : Term). call2 "CONS" t (term_at bank c.loop-place.list)) first ∙ ap (λ (t : Term). call2 "CONS" (value (tree x)) t) rest in
    deep_before c.args.items.now c.loop-place.place x last c.loop-place-test.true c.loop-place.invariant.within c.index-items-place.is (subst (λ (t : Term). depth_limit < depth_of t) same deep)
