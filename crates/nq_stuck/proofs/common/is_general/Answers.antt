use Rattle.nq_bank.specs.Content.{text_at, term_at}
use Rattle.nq_bank.specs.Parts.{parts_of}
use Rattle.nq_history.specs.Events.{events_at}
use Rattle.nq_stuck.proofs.GeneralLemmas.{no_numeral, not_kept, no_value}
use Rattle.nq_stuck.proofs.common.is_general.Goals as goal

pub returns-in-Num : goal.returns-in-Num
returns-in-Num c =
    let bank = c.args.bank.now in
    let h = events_at bank c.args.history.now in
    no_numeral h (term_at bank c.args.t) c.in-Num.field-0 c.in-Num.ensures.head.0 c.in-Num.ensures.head.1

pub returns-then-not-value : goal.returns-then-not-value
returns-then-not-value c =
    let bank = c.args.bank.now in
    let h = events_at bank c.args.history.now in
    not_kept h (term_at bank c.args.t) (text_at bank c.in-App.f) (parts_of (term_at bank c.args.t)) c.is_kept-kept.result c.in-App.ensures.head.1 c.is_kept-kept.ensures

pub returns-else-not-value : goal.returns-else-not-value
returns-else-not-value c =
    let bank = c.args.bank.now in
    let h = events_at bank c.args.history.now in
    no_value h (term_at bank c.args.t) c.is_value-value.result c.is_value-value.ensures
