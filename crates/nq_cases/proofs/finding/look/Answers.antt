use Rattle.std.proofs.Common.{◌≡◌, ◌==◌, ◌&&◌, false, length, sym, ◌∙◌, subst}
use Rattle.std.specs.Prelude.{bytes_eq, codes}
use Rattle.nq_bank.specs.Content.{text_at, term_at}
use Rattle.nq_bank.specs.Parts.{parts_of}
use Rattle.nq_rule.proofs.Made.{for_ok}
use Rattle.nq_cases.specs.Paths.{IsIfFree}
use Rattle.nq_cases.specs.Choices.{IsNextOfCall, IsNext}
use Rattle.nq_cases.proofs.FindLemmas.{no_if_variable, no_if_numeral, next_call, not_if_head, not_if_count}
use Rattle.nq_cases.proofs.finding.look.Goals.{else-is_ground-via-then-is_ground+else-args-eq3, else-is_ground-via-else-is_ground}
use Rattle.nq_cases.proofs.finding.look.Goals as goal

pub returns-in-Var-clause-ok : goal.returns-in-Var-clause-ok
returns-in-Var-clause-ok c = subst IsIfFree (sym c.in-Var.ensures.head.1) (no_if_variable (text_at c.args.bank.now c.in-Var.field-0))

pub returns-in-Num-clause-ok : goal.returns-in-Num-clause-ok
returns-in-Num-clause-ok c = subst IsIfFree (sym c.in-Num.ensures.head.1) (no_if_numeral c.in-Num.field-0)

pub returns-else-is_ground-clause-ok : goal.returns-else-is_ground-clause-ok
returns-else-is_ground-clause-ok c =
    let other : (bytes_eq (text_at c.args.bank.now c.in-App.f) (codes "IF") && (length (parts_of (term_at c.args.bank.now c.args.t)) == 3)) ≡ false =
    elim c.else-is_ground.branch [
      | else-is_ground-via-then-is_ground+else-args-eq3 w ↦ not_if_count (bytes_eq (text_at c.args.bank.now c.in-App.f) (codes "IF")) c.args.bank.now w.args-then-is_ground.result.now (term_at c.args.bank.now c.args.t) w.args-then-is_ground.ensures.parts w.if-args-eq3.false
      | else-is_ground-via-else-is_ground w ↦ not_if_head (bytes_eq (text_at c.args.bank.now c.in-App.f) (codes "IF")) (length (parts_of (term_at c.args.bank.now c.args.t))) (sym c.is_ground.ensures ∙ w.if-is_ground.false)
    ] in
    for_ok c.next_of_call.result (IsNextOfCall c.args.bank.now c.args.t) (IsNext c.args.bank.now c.args.t) (λ next h. next_call c.args.bank.now c.args.t (text_at c.args.bank.now c.in-App.f) next c.in-App.ensures.head.1 c.in-App.ensures.head.3 other h) c.next_of_call.ensures.ok
