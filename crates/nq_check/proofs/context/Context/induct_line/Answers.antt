use Rattle.std.proofs.Common.{[], ◌∷◌, subst}
use Rattle.std.specs.Prelude.{Option}
use Rattle.nq_logtext.specs.Fields.{number}
use Rattle.nq_proof.specs.Rules.{Rule}
use Rattle.nq_log.specs.Logs.{continued}
use Rattle.nq_log.specs.RuleLines.{induct_rule, rule_line}
use Rattle.nq_check.specs.Contexts.{state_of}
use Rattle.nq_check.specs.Judging.{Leads}
use Rattle.nq_check.proofs.CaseLemmas.{induct_leads}
use Rattle.nq_check.proofs.context.Context.induct_line.Goals as goal

pub returns : goal.returns
returns c =
    let old = c.args.self.now in
    let s = state_of old in
    let told = induct_rule s.block (number c.args.goal ∷ number c.args.measure ∷ number c.args.ordinal ∷ number c.args.base ∷ []) in
    induct_leads old c.rule_line.new.self c.clear.new.self told c.in_ok-judged.judged
    (subst (λ (r : Option Rule). Leads s (continued (rule_line s r)) c.in_ok-judged.judged c.rule_line.new.self) c.in_ok-rule.ensures.rule c.in_ok-judged.ensures)
    c.clear.ensures.items
