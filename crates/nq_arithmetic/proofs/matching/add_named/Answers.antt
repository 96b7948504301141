use Rattle.nq_kernel.proofs.GrowingLemmas.{WorkGrows-trans}
use Rattle.nq_lines.proofs.InstanceLemmas.{pairs_in_grown}
use Rattle.nq_arithmetic.proofs.Lemmas.{instances_grown}
use Rattle.nq_arithmetic.proofs.matching.add_named.Goals as goal

pub add_by_pairs-requires-clause-found : goal.add_by_pairs-requires-clause-found
add_by_pairs-requires-clause-found c = instances_grown c.args.history.now c.args.work.now c.event_fact.new.work c.requires.stands c.event_fact.ensures.grows c.args.found.now.items c.requires.found

pub add_by_pairs-requires-clause-pairs : goal.add_by_pairs-requires-clause-pairs
add_by_pairs-requires-clause-pairs c = pairs_in_grown c.args.history.now c.args.work.now c.event_fact.new.work c.args.pairs.items c.requires.stands c.event_fact.ensures.grows c.requires.pairs

pub returns-in-Some-clause-grows : goal.returns-in-Some-clause-grows
returns-in-Some-clause-grows c = WorkGrows-trans c.args.history.now c.args.work.now c.event_fact.new.work c.add_by_pairs.new.work c.event_fact.ensures.grows c.add_by_pairs.ensures.grows

pub returns-in-None-clause-found : goal.returns-in-None-clause-found
returns-in-None-clause-found c = instances_grown c.args.history.now c.args.work.now c.event_fact.new.work c.requires.stands c.event_fact.ensures.grows c.args.found.now.items c.requires.found
