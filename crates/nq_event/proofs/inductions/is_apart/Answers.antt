use Rattle.std.proofs.Common.{◌∷◌, ap, ◌∙◌}
use Rattle.nq_bank.specs.Content.{term_at, terms_at, text_at}
use Rattle.nq_bank.specs.Parts.{parts_of}
use Rattle.nq_events.specs.Inductions.{are_distinct_names, names_of}
use Rattle.nq_event.proofs.DefinitionLemmas.{apart_variable, numeral_no_name, call_no_name}
use Rattle.nq_event.proofs.inductions.is_apart.Goals as goal

pub returns-in-Var : goal.returns-in-Var
returns-in-Var c =
    let bank = c.args.bank.now in
    let ts = terms_at bank c.args.others.now in
    ap (λ t. are_distinct_names (names_of (t ∷ ts))) c.in-Var.ensures.head.1 ∙ apart_variable (text_at bank c.in-Var.s) ts c.have_variable.result c.have_variable.ensures

pub returns-in-Num : goal.returns-in-Num
returns-in-Num c =
    let ts = terms_at c.args.bank.now c.args.others.now in
    ap (λ t. are_distinct_names (names_of (t ∷ ts))) c.in-Num.ensures.head.1 ∙ ap are_distinct_names (numeral_no_name c.in-Num.field-0 (names_of ts))

pub returns-in-App : goal.returns-in-App
returns-in-App c =
    let bank = c.args.bank.now in
    let ts = terms_at bank c.args.others.now in
    ap (λ t. are_distinct_names (names_of (t ∷ ts))) c.in-App.ensures.head.1 ∙ ap are_distinct_names (call_no_name (text_at bank c.in-App.field-0) (parts_of (term_at bank c.args.t)) (names_of ts))
