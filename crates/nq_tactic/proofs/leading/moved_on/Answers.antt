use Rattle.nq_tactic.proofs.WayLemmas.{move_leads}
use Rattle.nq_tactic.proofs.leading.moved_on.Goals as goal

pub returns : goal.returns
returns c = move_leads c.args._history.now c.args._work.now c.args._goal.now c.requires.stands c.requires.goal c.args.moved c.args.plan c.requires.moved
