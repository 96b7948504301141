use Rattle.std.proofs.Common.{◌∙◌, sym}
use Rattle.nq_bank.specs.Content.{term_at, text_at}
use Rattle.nq_bank.specs.Parts.{parts_of}
use Rattle.nq_history.specs.Events.{events_at}
use Rattle.nq_types.proofs.OutsideLemmas.{arguments_stand, outsider_told}
use Rattle.nq_types.proofs.outside.denies_at.Goals as goal

pub is_one_recognizer-one-requires-clause-found : goal.is_one_recognizer-one-requires-clause-found
is_one_recognizer-one-requires-clause-found c = arguments_stand c.args.bank.now c.args.literal c.args-arguments.result.now c.requires.literal c.args-arguments.ensures.earlier

pub returns-in-App : goal.returns-in-App
returns-in-App c =
    let bank = c.args.bank.now in
    let v = term_at bank c.args.literal in
    λ e. outsider_told (events_at bank c.args.history.now) bank c.args.place (text_at bank c.in-App.f) v (term_at bank c.args.t) (parts_of v) c.args-arguments.result.now c.is_ground-denies.result c.is_one_recognizer-one.result c.in-App.ensures.head.1 c.args-arguments.ensures.parts c.is_ground-denies.ensures c.is_one_recognizer-one.ensures (sym c.is_both.ensures ∙ e)
