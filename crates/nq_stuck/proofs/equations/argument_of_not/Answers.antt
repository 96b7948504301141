use Rattle.std.proofs.Common.{sym, ◌∙◌}
use Rattle.nq_bank.specs.Content.{text_at}
use Rattle.nq_rule.proofs.LiteralLemmas.{no_not_call, not_one}
use Rattle.nq_stuck.proofs.equations.argument_of_not.Goals as goal

pub returns-else-is_ground-clause-argument : goal.returns-else-is_ground-clause-argument
returns-else-is_ground-clause-argument c =
    no_not_call c.args.bank.now (text_at c.args.bank.now c.args.f) c.args.arguments.now c.in-len1.len_at_least c.in-len1.len_below (sym c.is_ground.ensures ∙ c.if-is_ground.false)

pub returns-in_default-clause-argument : goal.returns-in_default-clause-argument
returns-in_default-clause-argument c = not_one c.args.bank.now (text_at c.args.bank.now c.args.f) c.args.arguments.now c.in_default.len_at_least
