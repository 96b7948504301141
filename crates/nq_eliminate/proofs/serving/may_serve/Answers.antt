use Rattle.nq_bank.specs.Content.{term_at, terms_at, text_at}
use Rattle.nq_eliminate.proofs.ServingLemmas.{destructor_call, destructor_number, destructor_variable, may_told}
use Rattle.nq_eliminate.proofs.serving.may_serve.Goals as goal

pub returns-in-App-clause-yes : goal.returns-in-App-clause-yes
returns-in-App-clause-yes c =
    let bank = c.args.bank.now in
    λ holds.
    may_told (text_at bank c.args.rule.name) (terms_at bank c.args.destructors.now) (term_at bank c.args.d) (term_at bank c.args.u) (text_at bank c.in-App.f) (terms_at bank c.args-arguments.result.now) c.in-App.ensures.head.1 c.args-arguments.ensures.parts (c.can_become_call.ensures.yes holds)

pub returns-in-App-clause-no : goal.returns-in-App-clause-no
returns-in-App-clause-no c =
    let bank = c.args.bank.now in
    λ fails. λ goal.
    destructor_call (text_at bank c.args.rule.name) goal (terms_at bank c.args.destructors.now) (term_at bank c.args.d) (term_at bank c.args.u) (text_at bank c.in-App.f) (terms_at bank c.args-arguments.result.now) c.in-App.ensures.head.1 c.args-arguments.ensures.parts (c.can_become_call.ensures.no fails goal)

pub returns-in-Num-clause-no : goal.returns-in-Num-clause-no
returns-in-Num-clause-no c =
    let bank = c.args.bank.now in
    λ fails. λ goal. destructor_number (text_at bank c.args.rule.name) goal (terms_at bank c.args.destructors.now) (term_at bank c.args.d) (term_at bank c.args.u) c.in-Num.field-0 c.in-Num.ensures.head.1

pub returns-in-Var-clause-no : goal.returns-in-Var-clause-no
returns-in-Var-clause-no c =
    let bank = c.args.bank.now in
    λ fails. λ goal. destructor_variable (text_at bank c.args.rule.name) goal (terms_at bank c.args.destructors.now) (term_at bank c.args.d) (term_at bank c.args.u) (text_at bank c.in-Var.field-0) c.in-Var.ensures.head.1
