use Rattle.std.proofs.Common.{get_or}
use Rattle.nq_kernel.proofs.GrowingLemmas.{WorkGrows-refl, WorkGrows-trans}
use Rattle.nq_lines.specs.declared.facts.Fact.{Fact}
use Rattle.nq_instances.proofs.PartLemmas.{line_there}
use Rattle.nq_arithmetic.proofs.Lemmas.{all_grown}
use Rattle.nq_arithmetic.proofs.gathering.add_instances.Goals as goal

pub loop-instance-init : goal.loop-instance-init
loop-instance-init c = record { grows = WorkGrows-refl c.args.history.now c.args.work.now c.requires.stands; found = c.requires.found }

pub add_instance-requires-clause-stands : goal.add_instance-requires-clause-stands
add_instance-requires-clause-stands c = c.loop-instance.invariant.grows.stands

pub add_instance-requires-clause-goal : goal.add_instance-requires-clause-goal
add_instance-requires-clause-goal c = all_grown c.args.history.now c.args.work.now c.loop-instance.work c.requires.stands c.loop-instance.invariant.grows c.args.goal.now c.requires.goal

pub add_instance-requires-clause-instance : goal.add_instance-requires-clause-instance
add_instance-requires-clause-instance c = let d : Fact = record { term = record { 0 = 0 }; line = 0 } in line_there c.args.history.now c.args.work.now c.loop-instance.work c.loop-instance.invariant.grows (get_or c.args.instances.now c.loop-instance.instance-index d) c.requires.stands (c.requires.instances c.loop-instance.instance-index d c.loop-instance-test.true)

pub add_instance-requires-clause-found : goal.add_instance-requires-clause-found
add_instance-requires-clause-found c = c.loop-instance.invariant.found

pub returns-in_err-add_instance-clause-grows : goal.returns-in_err-add_instance-clause-grows
returns-in_err-add_instance-clause-grows c = WorkGrows-trans c.args.history.now c.args.work.now c.loop-instance.work c.add_instance.new.work c.loop-instance.invariant.grows c.add_instance.ensures.grows

pub loop-instance-preserved : goal.loop-instance-preserved
loop-instance-preserved c = record { grows = WorkGrows-trans c.args.history.now c.args.work.now c.loop-instance.work c.add_instance.new.work c.loop-instance.invariant.grows c.add_instance.ensures.grows; found = c.in_ok-add_instance.ensures.found }
