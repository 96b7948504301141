use Rattle.nq_tactic.proofs.WayLemmas.{induction_leads}
use Rattle.nq_tactic.proofs.inducting.lead_by.Goals as goal

pub returns-clause-led : goal.returns-clause-led
returns-clause-led c =
    induction_leads c.args.history.now c.args.work.now c.goals_of.new.work c.args.goal.now c.requires.stands c.goals_of.ensures.grows c.requires.goal c.args.scheme c.requires.scheme c.requires.some c.in_ok-nexts.nexts c.args.plan
    c.in_ok-nexts.ensures.goals c.in_ok-nexts.ensures.over
