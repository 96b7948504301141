use Rattle.nq_log_tests.proofs.ClosedLemmas.{terms_grown, ready_grown}
use Rattle.nq_log_tests.proofs.moves.led_on.Goals as goal

pub closed-line-requires-clause-ready : goal.closed-line-requires-clause-ready
closed-line-requires-clause-ready c = ready_grown c.args.history.now c.args.work.now c.moved.new.work c.requires.stands c.moved.ensures.grows c.requires.ready

pub closed-line-requires-clause-goal : goal.closed-line-requires-clause-goal
closed-line-requires-clause-goal c = terms_grown c.args.history.now c.args.work.now c.moved.new.work c.requires.stands c.moved.ensures.grows c.args.goal.now c.requires.goal
