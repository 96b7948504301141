use Rattle.nq_tactic.proofs.WayLemmas.{elimination_leads}
use Rattle.nq_tactic.proofs.eliminating.eliminated.Goals as goal

pub returns : goal.returns
returns c = elimination_leads c.args._history.now c.args._work.now c.args._goal.now c.requires.stands c.requires.goal c.args.elimination c.args.plan c.requires.way
