use Rattle.std.proofs.Common.{Bool, false, sym, subst}
use Rattle.std.specs.Prelude.{IfOk}
use Rattle.nq_kernel.specs.Growing.{LineHolds}
use Rattle.nq_part_lines.specs.Decisions.{choice_clause}
use Rattle.nq_part_lines.proofs.choices.choice_law.Goals as goal

pub returns-then-first-clause-line : goal.returns-then-first-clause-line
returns-then-first-clause-line c =
    subst (λ (b : Bool). IfOk c.first_of_choice.result (λ n. LineHolds c.first_of_choice.new.work n (choice_clause b c.args.second))) (sym c.if-first.true) c.first_of_choice.ensures.line

pub returns-then-second-clause-line : goal.returns-then-second-clause-line
returns-then-second-clause-line c =
    subst (λ (b : Bool). IfOk c.second_of_choice.result (λ n. LineHolds c.second_of_choice.new.work n (choice_clause b c.args.second))) (sym c.if-first.false) (
    subst (λ (b : Bool). IfOk c.second_of_choice.result (λ n. LineHolds c.second_of_choice.new.work n (choice_clause false b))) (sym c.if-second.true) c.second_of_choice.ensures.line)

pub returns-else-second-clause-line : goal.returns-else-second-clause-line
returns-else-second-clause-line c =
    subst (λ (b : Bool). IfOk c.neither_of_choice.result (λ n. LineHolds c.neither_of_choice.new.work n (choice_clause b c.args.second))) (sym c.if-first.false) (
    subst (λ (b : Bool). IfOk c.neither_of_choice.result (λ n. LineHolds c.neither_of_choice.new.work n (choice_clause false b))) (sym c.if-second.false) c.neither_of_choice.ensures.line)
