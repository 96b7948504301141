use Rattle.std.proofs.Common.{◌∙◌, sym}
use Rattle.nq_bank.specs.Content.{term_at, terms_at, text_at}
use Rattle.nq_bank.proofs.Texts.{bytes_eq-true}
use Rattle.nq_logic.specs.Terms.{call}
use Rattle.nq_eliminate.proofs.ImageLemmas.{call_apart, call_becomes, names_apart, number_apart, variable_apart}
use Rattle.nq_eliminate.proofs.images.becomes_call.Goals as goal

pub returns-then-is_same_name-clause-same : goal.returns-then-is_same_name-clause-same
returns-then-is_same_name-clause-same c =
    let bank = c.args.bank.now in
    let f = text_at bank c.args.f in
    let g = text_at bank c.in-App.g in
    λ holds.
    call_becomes (terms_at bank c.args.from.now) (terms_at bank c.args.to.now) f g (terms_at bank c.args.ts.now) (terms_at bank c.args-arguments.result.now) (term_at bank c.args.u) c.become_same.result c.in-App.ensures.head.1 c.args-arguments.ensures.parts
    (bytes_eq-true f g (sym c.is_same_name.ensures ∙ c.if-is_same_name.true)) c.become_same.ensures holds

pub returns-then-is_same_name-clause-apart : goal.returns-then-is_same_name-clause-apart
returns-then-is_same_name-clause-apart c =
    let bank = c.args.bank.now in
    λ fails.
    call_apart (terms_at bank c.args.from.now) (terms_at bank c.args.to.now) (text_at bank c.args.f) (text_at bank c.in-App.g) (terms_at bank c.args.ts.now) (terms_at bank c.args-arguments.result.now) (term_at bank c.args.u) c.become_same.result c.in-App.ensures.head.1 c.args-arguments.ensures.parts c.become_same.ensures fails

pub returns-else-is_same_name-clause-apart : goal.returns-else-is_same_name-clause-apart
returns-else-is_same_name-clause-apart c =
    let bank = c.args.bank.now in
    λ fails.
    names_apart (terms_at bank c.args.from.now) (terms_at bank c.args.to.now) (text_at bank c.args.f) (text_at bank c.in-App.g) (terms_at bank c.args.ts.now) (term_at bank c.args.u) c.in-App.ensures.head.1 (sym c.is_same_name.ensures ∙ c.if-is_same_name.false)

pub returns-in-Num-clause-apart : goal.returns-in-Num-clause-apart
returns-in-Num-clause-apart c =
    let bank = c.args.bank.now in
    λ fails. number_apart (terms_at bank c.args.from.now) (terms_at bank c.args.to.now) (call (text_at bank c.args.f) (terms_at bank c.args.ts.now)) (term_at bank c.args.u) c.in-Num.field-0 c.in-Num.ensures.head.1

pub returns-in-Var-clause-apart : goal.returns-in-Var-clause-apart
returns-in-Var-clause-apart c =
    let bank = c.args.bank.now in
    λ fails. variable_apart (terms_at bank c.args.from.now) (terms_at bank c.args.to.now) (call (text_at bank c.args.f) (terms_at bank c.args.ts.now)) (term_at bank c.args.u) (text_at bank c.in-Var.field-0) c.in-Var.ensures.head.1
