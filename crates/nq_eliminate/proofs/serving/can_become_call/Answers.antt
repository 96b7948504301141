use Rattle.std.proofs.Common.{◌∙◌, sym}
use Rattle.nq_bank.specs.Content.{term_at, terms_at, text_at}
use Rattle.nq_bank.proofs.Texts.{bytes_eq-true}
use Rattle.nq_logic.specs.Terms.{call}
use Rattle.nq_eliminate.proofs.ServingLemmas.{call_serves, number_serves, other_serves, same_serves, variable_serves}
use Rattle.nq_eliminate.proofs.serving.can_become_call.Goals as goal

pub returns-then-is_same_name-clause-yes : goal.returns-then-is_same_name-clause-yes
returns-then-is_same_name-clause-yes c =
    let bank = c.args.bank.now in
    let f = text_at bank c.args.f in
    let g = text_at bank c.in-App.g in
    λ holds.
    call_serves (text_at bank c.args.rule.name) (terms_at bank c.args.destructors.now) f g (terms_at bank c.args.from.now) (terms_at bank c.args-arguments.result.now) (term_at bank c.args.u) (bytes_eq-true f g (sym c.is_same_name.ensures ∙ c.if-is_same_name.true)) c.in-App.ensures.head.1 c.args-arguments.ensures.parts (c.can_become.ensures.yes holds)

pub returns-then-is_same_name-clause-no : goal.returns-then-is_same_name-clause-no
returns-then-is_same_name-clause-no c =
    let bank = c.args.bank.now in
    let f = text_at bank c.args.f in
    let g = text_at bank c.in-App.g in
    λ fails. λ goal.
    same_serves (text_at bank c.args.rule.name) goal (terms_at bank c.args.destructors.now) f g (terms_at bank c.args.from.now) (terms_at bank c.args-arguments.result.now) (term_at bank c.args.u) (bytes_eq-true f g (sym c.is_same_name.ensures ∙ c.if-is_same_name.true)) c.in-App.ensures.head.1 c.args-arguments.ensures.parts (c.can_become.ensures.no fails goal)

pub returns-else-is_same_name-clause-no : goal.returns-else-is_same_name-clause-no
returns-else-is_same_name-clause-no c =
    let bank = c.args.bank.now in
    λ fails. λ goal.
    other_serves (text_at bank c.args.rule.name) goal (terms_at bank c.args.destructors.now) (text_at bank c.args.f) (text_at bank c.in-App.g) (terms_at bank c.args.from.now) (term_at bank c.args.u) c.in-App.ensures.head.1 (sym c.is_same_name.ensures ∙ c.if-is_same_name.false)

pub returns-in-Num-clause-no : goal.returns-in-Num-clause-no
returns-in-Num-clause-no c =
    let bank = c.args.bank.now in
    λ fails. λ goal. number_serves (text_at bank c.args.rule.name) goal (terms_at bank c.args.destructors.now) (call (text_at bank c.args.f) (terms_at bank c.args.from.now)) (term_at bank c.args.u) c.in-Num.field-0 c.in-Num.ensures.head.0 c.in-Num.ensures.head.1

pub returns-in-Var-clause-no : goal.returns-in-Var-clause-no
returns-in-Var-clause-no c =
    let bank = c.args.bank.now in
    λ fails. λ goal. variable_serves (text_at bank c.args.rule.name) goal (terms_at bank c.args.destructors.now) (text_at bank c.args.f) (text_at bank c.in-Var.field-0) (terms_at bank c.args.from.now) (term_at bank c.args.u) c.in-Var.ensures.head.1
