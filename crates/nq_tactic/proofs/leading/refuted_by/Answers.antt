use Rattle.nq_tactic.proofs.WayLemmas.{line_leads}
use Rattle.nq_tactic.proofs.leading.refuted_by.Goals as goal

pub returns : goal.returns
returns c = line_leads c.args._history.now c.args._work.now c.args._goal.now c.requires.stands c.requires.goal c.args.line c.args.plan c.requires.line
