use Rattle.std.proofs.Common.{◌∙◌, List, ap}
use Rattle.nq_bank.specs.declared.node.TermId.{TermId}
use Rattle.nq_bank.specs.Content.{terms_at}
use Rattle.nq_history.specs.Events.{events_at}
use Rattle.nq_events.specs.Inductions.{are_distinct_names, names_of}
use Rattle.nq_legal.proofs.SuggestingLemmas.{suggested}
use Rattle.nq_legal.proofs.suggesting.suggests.Goals as goal

pub returns : goal.returns
returns c =
    let bank = c.args.bank.now in
    suggested bank (events_at bank c.args.history.now) c.args.t c.definition_called.result c.in-Some.definition c.in-Some-measure.measure c.args-arguments.result.now c.in_ok-variables.variables.items c.are_distinct_variables.result
    c.definition_called.ensures.is c.in-Some.is c.in-Some-measure.is (c.is_call.ensures c.if-not-is_call.false) c.args-arguments.ensures.parts c.in_ok-variables.ensures.are
    (c.are_distinct_variables.ensures ∙ ap (λ (ids : List TermId). are_distinct_names (names_of (terms_at bank ids))) c.as_slice.ensures.value)
