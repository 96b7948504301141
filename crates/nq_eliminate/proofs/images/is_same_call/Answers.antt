use Rattle.nq_bank.specs.Content.{term_at, terms_at, text_at}
use Rattle.nq_eliminate.proofs.ImageLemmas.{number_apart, told_apart, told_becomes, turned_apart, variable_apart}
use Rattle.nq_eliminate.proofs.images.is_same_call.Goals as goal

pub returns-in-App-clause-same : goal.returns-in-App-clause-same
returns-in-App-clause-same c =
    let bank = c.args.bank.now in
    λ holds.
    told_becomes (terms_at bank c.args.from.now) (terms_at bank c.args.to.now) (term_at bank c.args.t) (term_at bank c.args.u) (text_at bank c.in-App.f) (terms_at bank c.args-arguments.result.now) c.in-App.ensures.head.1 c.args-arguments.ensures.parts (c.becomes_call.ensures.same holds)

pub returns-in-App-clause-apart : goal.returns-in-App-clause-apart
returns-in-App-clause-apart c =
    let bank = c.args.bank.now in
    λ fails.
    told_apart (terms_at bank c.args.from.now) (terms_at bank c.args.to.now) (term_at bank c.args.t) (term_at bank c.args.u) (text_at bank c.in-App.f) (terms_at bank c.args-arguments.result.now) c.in-App.ensures.head.1 c.args-arguments.ensures.parts (c.becomes_call.ensures.apart fails)

pub returns-in-Num-clause-apart : goal.returns-in-Num-clause-apart
returns-in-Num-clause-apart c =
    let bank = c.args.bank.now in
    let from = terms_at bank c.args.from.now in
    let to = terms_at bank c.args.to.now in
    λ fails. turned_apart from to (term_at bank c.args.t) (term_at bank c.args.u) (number_apart from to (term_at bank c.args.u) (term_at bank c.args.t) c.in-Num.field-0 c.in-Num.ensures.head.1)

pub returns-in-Var-clause-apart : goal.returns-in-Var-clause-apart
returns-in-Var-clause-apart c =
    let bank = c.args.bank.now in
    let from = terms_at bank c.args.from.now in
    let to = terms_at bank c.args.to.now in
    λ fails. turned_apart from to (term_at bank c.args.t) (term_at bank c.args.u) (variable_apart from to (term_at bank c.args.u) (term_at bank c.args.t) (text_at bank c.in-Var.field-0) c.in-Var.ensures.head.1)
