use Rattle.nq_kernel.proofs.GrowingLemmas.{WorkGrows-trans}
use Rattle.nq_arithmetic.proofs.Lemmas.{all_grown}
use Rattle.nq_arithmetic.proofs.gathering.add_round.Goals as goal

pub add_laws-requires-clause-goal : goal.add_laws-requires-clause-goal
add_laws-requires-clause-goal c = all_grown c.args.history.now c.args.work.now c.add_instances.new.work c.requires.stands c.add_instances.ensures.grows c.args.goal.now c.requires.goal

pub add_laws-requires-clause-terms : goal.add_laws-requires-clause-terms
add_laws-requires-clause-terms c = all_grown c.args.history.now c.args.work.now c.add_instances.new.work c.requires.stands c.add_instances.ensures.grows c.args.terms.now c.requires.terms

pub returns-clause-grows : goal.returns-clause-grows
returns-clause-grows c = WorkGrows-trans c.args.history.now c.args.work.now c.add_instances.new.work c.add_laws.new.work c.add_instances.ensures.grows c.add_laws.ensures.grows
