use Rattle.std.proofs.Common.{sym, ap, ◌∙◌}
use Rattle.nq_logic.specs.Words.{equal_term}
use Rattle.nq_logic.specs.RuleShapes.{is_elim_conclusion}
use Rattle.nq_bank.specs.Content.{text_at, term_at}
use Rattle.nq_bank.specs.Parts.{parts_of}
use Rattle.nq_rules.proofs.DestructorLemmas.{elim_call, elim_numeral, elim_variable}
use Rattle.nq_rules.proofs.eliminating.eliminates.Goals as goal

pub returns-in-Var : goal.returns-in-Var
returns-in-Var c =
    let bank = c.args.bank.now in
    let l = term_at bank c.args.left in
    elim_variable l (text_at bank c.in-Var.x) c.is_elimination.result c.is_elimination.ensures ∙ ap (λ r. is_elim_conclusion (equal_term l r)) (sym c.in-Var.ensures.head.1)

pub returns-in-Num : goal.returns-in-Num
returns-in-Num c =
    let l = term_at c.args.bank.now c.args.left in
    elim_numeral l c.in-Num.field-0 ∙ ap (λ r. is_elim_conclusion (equal_term l r)) (sym c.in-Num.ensures.head.1)

pub returns-in-App : goal.returns-in-App
returns-in-App c =
    let bank = c.args.bank.now in
    let l = term_at bank c.args.left in
    elim_call l (text_at bank c.in-App.field-0) (parts_of (term_at bank c.args.right)) ∙ ap (λ r. is_elim_conclusion (equal_term l r)) (sym c.in-App.ensures.head.1)
