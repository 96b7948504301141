use Rattle.std.proofs.Common.{sym, ap, ◌∙◌}
use Rattle.nq_bank.specs.Content.{text_at, term_at}
use Rattle.nq_bank.specs.Parts.{parts_of}
use Rattle.nq_rules.specs.Variables.{is_variable}
use Rattle.nq_rules.proofs.DestructorLemmas.{call_none, numeral_none}
use Rattle.nq_rules.proofs.destructors.is_variable.Goals as goal

pub returns-in-Num : goal.returns-in-Num
returns-in-Num c =
    let x = text_at c.args.bank.now c.args.x in
    sym (ap (is_variable x) c.in-Num.ensures.head.1 ∙ numeral_none x c.in-Num.field-0)

pub returns-in-App : goal.returns-in-App
returns-in-App c =
    let x = text_at c.args.bank.now c.args.x in
    sym (ap (is_variable x) c.in-App.ensures.head.1 ∙ call_none x (text_at c.args.bank.now c.in-App.field-0) (parts_of (term_at c.args.bank.now c.args.t)))
