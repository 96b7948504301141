use Rattle.std.proofs.Common.{sym, ◌∙◌}
use Rattle.nq_bank.specs.Content.{text_at}
use Rattle.nq_rule.proofs.BranchLemmas.{no_branches, no_if}
use Rattle.nq_rule.proofs.branching.branches_of_call.Goals as goal

pub returns-then-arguments-ne3-clause-parts : goal.returns-then-arguments-ne3-clause-parts
returns-then-arguments-ne3-clause-parts c = no_branches c.args.bank.now (text_at c.args.bank.now c.args.f) c.args.arguments.now c.if-arguments-ne3.true

pub returns-then-not-is_ground-clause-parts : goal.returns-then-not-is_ground-clause-parts
returns-then-not-is_ground-clause-parts c = no_if c.args.bank.now (text_at c.args.bank.now c.args.f) c.args.arguments.now c.if-arguments-ne3.false (sym c.is_ground.ensures ∙ c.if-not-is_ground.true)
