use Rattle.std.proofs.Common.{sym, ap, ◌∙◌}
use Rattle.nq_bank.specs.Content.{text_at, term_at, terms_at}
use Rattle.nq_bank.specs.Parts.{parts_of}
use Rattle.nq_rules.specs.Variables.{is_apart}
use Rattle.nq_rules.proofs.DestructorLemmas.{call_not_apart, numeral_not_apart}
use Rattle.nq_rules.proofs.destructors.is_apart.Goals as goal

pub returns-in-Num : goal.returns-in-Num
returns-in-Num c =
    let ts = terms_at c.args.bank.now c.args.others.now in
    sym (ap (λ t. is_apart t ts) c.in-Num.ensures.head.1 ∙ numeral_not_apart c.in-Num.field-0 ts)

pub returns-in-App : goal.returns-in-App
returns-in-App c =
    let ts = terms_at c.args.bank.now c.args.others.now in
    sym (ap (λ t. is_apart t ts) c.in-App.ensures.head.1 ∙ call_not_apart (text_at c.args.bank.now c.in-App.field-0) (parts_of (term_at c.args.bank.now c.args.t)) ts)
