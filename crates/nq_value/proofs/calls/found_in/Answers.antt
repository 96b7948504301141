use Rattle.std.proofs.Common.{ap, sym, ◌∙◌}
use Rattle.std.proofs.lemmas.Bool.{false≢true}
use Rattle.nq_bank.specs.Content.{text_at, term_at, terms_at}
use Rattle.nq_proof.specs.Values.{value_of}
use Rattle.nq_value.proofs.CallLemmas.{same_call, value_of-numeral, no_values}
use Rattle.nq_value.proofs.calls.found_in.Goals as goal

pub returns-then-are_values-clause-value : goal.returns-then-are_values-clause-value
returns-then-are_values-clause-value c =
    let bank = c.args.bank.now in
    let same = same_call (term_at bank c.args.t) (text_at bank c.in-App.f) (terms_at bank c.args-arguments.result.now) c.in-App.ensures.head.1 c.args-arguments.ensures.parts in
    ap value_of same ∙ c.found_for.ensures.value

pub returns-else-are_values-clause-value : goal.returns-else-are_values-clause-value
returns-else-are_values-clause-value c =
    let bank = c.args.bank.now in
    let f = text_at bank c.in-App.f in
    let ids = c.args-arguments.result.now in
    let same = same_call (term_at bank c.args.t) f (terms_at bank ids) c.in-App.ensures.head.1 c.args-arguments.ensures.parts in
    ap value_of same ∙ no_values bank f ids (λ all. false≢true (sym c.if-are_values.false ∙ c.are_values.ensures.1 all))

pub returns-in-Num-clause-value : goal.returns-in-Num-clause-value
returns-in-Num-clause-value c = ap value_of c.in-Num.ensures.head.1 ∙ value_of-numeral c.in-Num.field-0 c.in-Num.ensures.head.0
