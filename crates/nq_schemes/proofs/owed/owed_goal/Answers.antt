use Rattle.nq_schemes.proofs.GrownLemmas.{terms_grown}
use Rattle.nq_schemes.proofs.owed.owed_goal.Goals as goal

pub returns-in-None-clause-goal : goal.returns-in-None-clause-goal
returns-in-None-clause-goal c = terms_grown c.args.history.now c.args.work.now c.line_at_hand.new.work c.requires.stands c.line_at_hand.ensures.grows c.args.goal.items c.requires.goal
