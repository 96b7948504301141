use Rattle.std.proofs.Common.{subst, sym}
use Rattle.nq_bank.specs.Content.{term_at, text_at}
use Rattle.nq_bank.specs.Parts.{parts_of}
use Rattle.nq_history.specs.Events.{events_at}
use Rattle.nq_types.specs.Kinds.{HasKind}
use Rattle.nq_types.proofs.KindLemmas.{call_kind_holds, variable_kind}
use Rattle.nq_types.proofs.kinds.kind_of.Goals as goal

pub returns-in-App : goal.returns-in-App
returns-in-App c =
    let bank = c.args.bank.now in
    let t = term_at bank c.args.t in
    let h = events_at bank c.args.history.now in
    subst (HasKind h t) (sym c.call_kind.ensures) (call_kind_holds h t (text_at bank c.in-App.f) (parts_of t) c.in-App.ensures.head.1 c.in-App.count c.in-App.ensures.head.2)

pub returns-in-Num : goal.returns-in-Num
returns-in-Num c =
    let bank = c.args.bank.now in
    let h = events_at bank c.args.history.now in
    subst (λ t. HasKind h t c.number_kind.result) (sym c.in-Num.ensures.head.1) (c.number_kind.ensures h)

pub returns-in-Var : goal.returns-in-Var
returns-in-Var c = variable_kind (events_at c.args.bank.now c.args.history.now) (term_at c.args.bank.now c.args.t) (text_at c.args.bank.now c.in-Var.field-0) c.in-Var.ensures.head.1
