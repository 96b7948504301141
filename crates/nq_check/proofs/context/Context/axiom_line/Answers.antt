use Rattle.std.proofs.Common.{subst}
use Rattle.std.specs.Prelude.{IfOk, Some}
use Rattle.nq_logic.specs.Terms.{Name}
use Rattle.nq_proof.specs.Rules.{AxiomRow}
use Rattle.nq_log.specs.Logs.{continued}
use Rattle.nq_log.specs.RuleLines.{rule_line}
use Rattle.nq_check.specs.Contexts.{state_of}
use Rattle.nq_check.specs.Judging.{Leads}
use Rattle.nq_check.proofs.ContextLemmas.{whole_grown}
use Rattle.nq_check.proofs.RuleLemmas.{ruled_before}
use Rattle.nq_check.proofs.context.Context.axiom_line.Goals as goal

pub add_line-requires-clause-whole : goal.add_line-requires-clause-whole
add_line-requires-clause-whole c = whole_grown c.args.self.now c.name.new.self c.in_ok-s.ensures.ok.grows c.requires

pub returns : goal.returns
returns c =
    let old = c.args.self.now in
    let mid = record old { bank = c.name.new.self } in
    ruled_before old c.name.new.self (AxiomRow c.args.group.now c.args.row c.args.part) c.add_line.result c.add_line.new.self c.in_ok-s.ensures.ok.grows c.requires
    (subst (λ (n : Name). IfOk c.add_line.result (λ judged. Leads (state_of mid) (continued (rule_line (state_of mid) (Some (AxiomRow n c.args.row c.args.part)))) judged c.add_line.new.self)) c.in_ok-s.ensures.ok.reads c.add_line.ensures)
