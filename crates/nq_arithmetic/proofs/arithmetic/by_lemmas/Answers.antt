use Rattle.std.proofs.Common.{subst, sym}
use Rattle.std.specs.Prelude.{All}
use Rattle.nq_kernel.proofs.GrowingLemmas.{WorkGrows-trans}
use Rattle.nq_instances.specs.Parts.{IsLine}
use Rattle.nq_arithmetic.proofs.Lemmas.{all_grown, goal_same, found_of, instances_grown}
use Rattle.nq_arithmetic.proofs.arithmetic.by_lemmas.Goals as goal

pub with_told-requires-clause-told : goal.with_told-requires-clause-told
with_told-requires-clause-told c = instances_grown c.args.history.now c.args.work.now c.instances_of.new.work c.requires.stands c.instances_of.ensures.grows c.args.told.now c.requires.told

pub with_told-requires-clause-instances : goal.with_told-requires-clause-instances
with_told-requires-clause-instances c = subst (All (IsLine c.args.history.now c.instances_of.new.work)) (sym c.as_slice.ensures.value) c.in_ok-instances.ensures.found

pub by_facts-requires-clause-goal : goal.by_facts-requires-clause-goal
by_facts-requires-clause-goal c = all_grown c.args.history.now c.args.work.now c.instances_of.new.work c.requires.stands c.instances_of.ensures.grows c.args.goal.now c.requires.goal

pub by_facts-requires-clause-instances : goal.by_facts-requires-clause-instances
by_facts-requires-clause-instances c = subst (All (IsLine c.args.history.now c.instances_of.new.work)) (sym c.as_slice-2.ensures.value) c.in_ok-all.ensures.facts

pub returns-clause-line : goal.returns-clause-line
returns-clause-line c = found_of c.by_facts.result c.by_facts.new.work _ _ (goal_same c.args.history.now c.args.work.now c.instances_of.new.work c.requires.stands c.instances_of.ensures.grows c.args.goal.now c.requires.goal) c.by_facts.ensures.line

pub returns-clause-grows : goal.returns-clause-grows
returns-clause-grows c = WorkGrows-trans c.args.history.now c.args.work.now c.instances_of.new.work c.by_facts.new.work c.instances_of.ensures.grows c.by_facts.ensures.grows
