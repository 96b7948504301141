use Rattle.nq_arithmetic.proofs.Lemmas.{assumptions_grown, assumption_grown, fact_pushed}
use Rattle.nq_arithmetic.proofs.gathering.add_met.Goals as goal

pub returns-in_ok-push-clause-found : goal.returns-in_ok-push-clause-found
returns-in_ok-push-clause-found c = fact_pushed c.args.history.now c.is_source_met.new.work c.args.found.now.items c.push.new.found.items c.args.assumption c.in_ok-push.ensures.ok (assumptions_grown c.args.history.now c.args.work.now c.is_source_met.new.work c.requires.stands c.is_source_met.ensures.grows c.args.found.now.items c.requires.found) (assumption_grown c.args.history.now c.args.work.now c.is_source_met.new.work c.requires.stands c.is_source_met.ensures.grows c.args.assumption c.requires.assumption)

pub returns-else-branch-clause-found : goal.returns-else-branch-clause-found
returns-else-branch-clause-found c = assumptions_grown c.args.history.now c.args.work.now c.is_source_met.new.work c.requires.stands c.is_source_met.ensures.grows c.args.found.now.items c.requires.found
