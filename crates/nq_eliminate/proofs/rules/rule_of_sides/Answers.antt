use Rattle.std.proofs.Common.{◌∙◌, sym, ap}
use Rattle.nq_logic.specs.RuleShapes.{rule_parts}
use Rattle.nq_logic.specs.Words.{equal_term}
use Rattle.nq_bank.specs.Content.{term_at, text_at}
use Rattle.nq_bank.specs.Parts.{parts_of}
use Rattle.nq_stuck.proofs.DestructorLemmas.{variable_number}
use Rattle.nq_eliminate.proofs.FindingLemmas.{call_apart, equation_rule, no_variable}
use Rattle.nq_eliminate.proofs.rules.rule_of_sides.Goals as goal

pub returns-in-Var : goal.returns-in-Var
returns-in-Var c =
    let bank = c.args.bank.now in
    λ t is.
    record {
      is = record { named = c.in-Var.ensures.head.0; made_of = c.requires.left; variable = c.requires.right; variable_is = c.in-Var.ensures.head.1 };
      conclusion = is ∙ ap (equal_term (term_at bank c.args.made_of)) c.in-Var.ensures.head.1;
      rule = equation_rule (rule_parts t).hypotheses (rule_parts t).conclusion (term_at bank c.args.made_of) (term_at bank c.args.variable) (text_at bank c.in-Var.name) is c.in-Var.ensures.head.1;
    }

pub returns-in-Num : goal.returns-in-Num
returns-in-Num c =
    let bank = c.args.bank.now in
    λ t is rule m. no_variable (rule_parts t).hypotheses rule (rule_parts t).conclusion (term_at bank c.args.made_of) (term_at bank c.args.variable) is (sym (variable_number (term_at bank c.args.variable) c.in-Num.field-0 c.in-Num.ensures.head.1)) m

pub returns-in-App : goal.returns-in-App
returns-in-App c =
    let bank = c.args.bank.now in
    let v = term_at bank c.args.variable in
    λ t is rule m. no_variable (rule_parts t).hypotheses rule (rule_parts t).conclusion (term_at bank c.args.made_of) v is (call_apart v (text_at bank c.in-App.field-0) (parts_of v) c.in-App.ensures.head.1) m
