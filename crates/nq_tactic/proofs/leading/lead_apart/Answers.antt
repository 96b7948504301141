use Rattle.nq_tactic.proofs.WayLemmas.{simplification_leads}
use Rattle.nq_tactic.proofs.leading.lead_apart.Goals as goal

pub returns-clause-led : goal.returns-clause-led
returns-clause-led c =
    simplification_leads c.args.history.now c.args.work.now c.parted.new.work c.args.goal.now c.in_ok-way.way c.args.plan c.requires.can.stands c.parted.ensures.grows c.requires.goal c.in_ok-way.ensures.simplified
