use Rattle.nq_kernel.proofs.GrowingLemmas.{WorkGrows-trans}
use Rattle.nq_lines.proofs.FactLemmas.{own_terms_grown}
use Rattle.nq_elim.proofs.kinds.kind_by.Goals as goal

pub known_fact-requires-clause-ready : goal.known_fact-requires-clause-ready
known_fact-requires-clause-ready c = own_terms_grown c.args.history.now c.args.work.now c.one_call.new.work c.one_call.ensures.grows c.requires.stands c.requires.ready

pub returns-in-Some-clause-grows : goal.returns-in-Some-clause-grows
returns-in-Some-clause-grows c = WorkGrows-trans c.args.history.now c.args.work.now c.one_call.new.work c.known_fact.new.work c.one_call.ensures.grows c.known_fact.ensures.grows
