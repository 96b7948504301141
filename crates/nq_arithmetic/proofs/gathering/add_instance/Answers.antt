use Rattle.nq_kernel.proofs.GrowingLemmas.{WorkGrows-trans}
use Rattle.nq_instances.proofs.PartLemmas.{line_there}
use Rattle.nq_arithmetic.proofs.Lemmas.{all_grown, assumptions_grown}
use Rattle.nq_arithmetic.proofs.gathering.add_instance.Goals as goal

pub add_instance_of-requires-clause-goal : goal.add_instance_of-requires-clause-goal
add_instance_of-requires-clause-goal c = all_grown c.args.history.now c.args.work.now c.claim_of.new.work c.requires.stands c.claim_of.ensures.grows c.args.goal.now c.requires.goal

pub add_instance_of-requires-clause-found : goal.add_instance_of-requires-clause-found
add_instance_of-requires-clause-found c = assumptions_grown c.args.history.now c.args.work.now c.claim_of.new.work c.requires.stands c.claim_of.ensures.grows c.args.found.now.items c.requires.found

pub add_instance_of-requires-clause-instance : goal.add_instance_of-requires-clause-instance
add_instance_of-requires-clause-instance c = line_there c.args.history.now c.args.work.now c.claim_of.new.work c.claim_of.ensures.grows c.args.instance c.requires.stands c.requires.instance

pub returns-clause-grows : goal.returns-clause-grows
returns-clause-grows c = WorkGrows-trans c.args.history.now c.args.work.now c.claim_of.new.work c.add_instance_of.new.work c.claim_of.ensures.grows c.add_instance_of.ensures.grows
