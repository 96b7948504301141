use Rattle.std.proofs.Common.{◌∙◌, sym}
use Rattle.nq_bank.specs.Content.{term_at, text_at}
use Rattle.nq_bank.specs.Parts.{parts_of}
use Rattle.nq_history.specs.Events.{events_at}
use Rattle.nq_types.proofs.OutsideLemmas.{recognizer_told}
use Rattle.nq_types.proofs.outside.recognizes_at.Goals as goal

pub returns-in-App : goal.returns-in-App
returns-in-App c =
    let bank = c.args.bank.now in
    let v = term_at bank c.args.literal in
    λ e. recognizer_told (events_at bank c.args.history.now) bank c.args.place (text_at bank c.in-App.f) v (parts_of v) c.args-arguments.result.now c.args.t c.is_at-named.result c.is_one_among-one.result c.in-App.ensures.head.1 c.args-arguments.ensures.parts c.is_at-named.ensures c.is_one_among-one.ensures (sym c.is_both.ensures ∙ e)
