use Rattle.std.proofs.Common.{[], ◌∷◌, sym, subst}
use Rattle.std.specs.Prelude.{IfOk}
use Rattle.nq_logtext.specs.Fields.{name, number}
use Rattle.nq_logtext.specs.Views.{view}
use Rattle.nq_logtext.specs.declared.line.LogLine.{LogLine}
use Rattle.nq_logic.specs.Terms.{Name}
use Rattle.nq_log.specs.RuleLines.{axiom_rule, rule_line}
use Rattle.nq_log.specs.Logs.{continued, step_by}
use Rattle.nq_check.specs.Contexts.{state_of}
use Rattle.nq_check.specs.Judging.{Leads}
use Rattle.nq_check.proofs.context.Context.judge_alone.Goals as goal

pub returns-in-Axiom : goal.returns-in-Axiom
returns-in-Axiom c =
    let s = state_of c.args.self.now in
    subst (λ (line : LogLine). IfOk c.axiom_line.result (λ judged. Leads s (step_by s (view line).fields (view line).word) judged c.axiom_line.new.self)) (sym c.in-Axiom.is)
    (subst (λ (n : Name). IfOk c.axiom_line.result (λ judged. Leads s (continued (rule_line s (axiom_rule (name n ∷ number c.in-Axiom.row ∷ number c.in-Axiom.part ∷ [])))) judged c.axiom_line.new.self))
    c.as_slice-in-Axiom.ensures c.axiom_line.ensures)
