use Rattle.nq_kernel.proofs.GrowingLemmas.{WorkGrows-refl, WorkGrows-trans}
use Rattle.nq_types.proofs.GuessLemmas.{nest_grown}
use Rattle.nq_types.proofs.TypeLemmas.{ready_grown}
use Rattle.nq_types.proofs.nesting.nested_by.Goals as goal

pub nested-requires-clause-ready : goal.nested-requires-clause-ready
nested-requires-clause-ready c = (ready_grown c.args.history.now c.args.work.now c.denied_fact.new.work c.requires.stands c.denied_fact.ensures.grows c.requires.ready)

pub nested-requires-clause-nest : goal.nested-requires-clause-nest
nested-requires-clause-nest c = (nest_grown c.args.history.now c.args.work.now c.denied_fact.new.work c.requires.stands c.denied_fact.ensures.grows c.args.nest c.requires.nest)

pub returns-in_ok-fact-in-Some-clause-grows : goal.returns-in_ok-fact-in-Some-clause-grows
returns-in_ok-fact-in-Some-clause-grows c = (WorkGrows-trans c.args.history.now c.args.work.now c.denied_fact.new.work c.nested.new.work c.denied_fact.ensures.grows c.nested.ensures.grows)

pub returns-in-None-clause-grows : goal.returns-in-None-clause-grows
returns-in-None-clause-grows c = WorkGrows-refl c.args.history.now c.args.work.now c.requires.stands
