use Rattle.std.proofs.Common.{sym, ◌∙◌}
use Rattle.nq_check.proofs.RuleLemmas.{line_refused, first_holds, some_concluded}
use Rattle.nq_check.proofs.context.Context.add_line.Goals as goal

pub returns-else-branch : goal.returns-else-branch
returns-else-branch c = line_refused c.args.self.now c.args.rule (sym c.in_ok-may_add.ensures ∙ c.if-branch.false)

pub add_allowed-requires-clause-older : goal.add_allowed-requires-clause-older
add_allowed-requires-clause-older c = first_holds _ _ (sym c.in_ok-may_add.ensures ∙ c.if-branch.true)

pub add_allowed-requires-clause-allowed : goal.add_allowed-requires-clause-allowed
add_allowed-requires-clause-allowed c = some_concluded _ _ (sym c.in_ok-may_add.ensures ∙ c.if-branch.true)
