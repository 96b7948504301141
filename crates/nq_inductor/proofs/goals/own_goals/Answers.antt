use Rattle.nq_inductor.proofs.GoalLemmas.{goals_inside, goals_told}
use Rattle.nq_inductor.proofs.goals.own_goals.Goals as goal

pub returns-in-Ok-clause-goals : goal.returns-in-Ok-clause-goals
returns-in-Ok-clause-goals c = goals_told c.args.work.now.bank c.in-Ok.goals.items c.args.nexts c.in-Ok.ensures

pub returns-in-Ok-clause-inside : goal.returns-in-Ok-clause-inside
returns-in-Ok-clause-inside c = goals_inside c.args.history.now c.args.work.now c.in-Ok.goals.items c.args.nexts c.in-Ok.ensures (c.is_own-base_in.ensures c.if-not-base_in.false) (c.is_own-step_in.ensures c.if-not-step_in.false)
