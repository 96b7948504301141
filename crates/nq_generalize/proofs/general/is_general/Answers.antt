use Rattle.nq_bank.specs.Content.{text_at, term_at}
use Rattle.nq_bank.specs.Parts.{parts_of}
use Rattle.nq_history.specs.Events.{events_at}
use Rattle.nq_generalize.proofs.GeneralLemmas.{general_call, general_numeral, general_variable}
use Rattle.nq_generalize.proofs.general.is_general.Goals as goal

pub returns-in-Var : goal.returns-in-Var
returns-in-Var c =
    let bank = c.args.bank.now in
    general_variable (events_at bank c.args.history.now) (term_at bank c.args.t) (text_at bank c.in-Var.field-0) c.in-Var.ensures.head.1

pub returns-in-Num : goal.returns-in-Num
returns-in-Num c =
    let bank = c.args.bank.now in
    general_numeral (events_at bank c.args.history.now) (term_at bank c.args.t) c.in-Num.field-0 c.in-Num.ensures.head.0 c.in-Num.ensures.head.1

pub returns-in-App : goal.returns-in-App
returns-in-App c =
    let bank = c.args.bank.now in
    general_call (events_at bank c.args.history.now) (term_at bank c.args.t) (text_at bank c.in-App.f) (parts_of (term_at bank c.args.t)) c.is_value-value.result c.is_kept-kept.result c.is_neither.result c.in-App.ensures.head.1 c.is_value-value.ensures c.is_kept-kept.ensures
    c.is_neither.ensures
