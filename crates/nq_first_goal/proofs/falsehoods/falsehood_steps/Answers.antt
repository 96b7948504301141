use Rattle.nq_bank.specs.Content.{term_at}
use Rattle.nq_stuck.proofs.GoalLemmas.{no_hint}
use Rattle.nq_first_goal.proofs.falsehoods.falsehood_steps.Goals as goal

pub steps_from-requires-clause-free : goal.steps_from-requires-clause-free
steps_from-requires-clause-free c = no_hint (term_at c.args.bank.now) c.args.hints.now.induct c.is_some.result c.is_some.ensures c.if-is_some.false
