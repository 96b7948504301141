use Rattle.std.proofs.Common.{◌∙◌, sym}
use Rattle.nq_bank.specs.Content.{text_at, term_at}
use Rattle.nq_history.specs.Events.{events_at}
use Rattle.nq_normal.specs.Definitions.{definition_at, hints_at}
use Rattle.nq_normal.proofs.OpeningLemmas.{opened_if, measure_kept}
use Rattle.nq_normal.proofs.openings.is_opened.Goals as goal

pub returns-in-Some : goal.returns-in-Some
returns-in-Some c =
    let bank = c.args.bank.now in
    opened_if (events_at bank c.args.history.now) (hints_at bank c.args.hints.now) (text_at bank c.args.f) (definition_at bank c.in-Some.d) c.is_some.result c.is_plain.result c.in-Some.ensures.is
    (c.is_some.ensures ∙ sym (measure_kept (term_at bank) c.in-Some.d.measure)) c.is_plain.ensures
