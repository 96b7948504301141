use Rattle.nq_kernel.proofs.GrowingLemmas.{WorkGrows-trans}
use Rattle.nq_tactic.proofs.uses.named.Goals as goal

pub event_fact-requires-clause-ready : goal.event_fact-requires-clause-ready
event_fact-requires-clause-ready c = c.own_terms.ensures c.args.work.now.bank c.args.history.now c.requires.ready

pub row_fact-requires-clause-ready : goal.row_fact-requires-clause-ready
row_fact-requires-clause-ready c =
    c.own_terms.ensures c.event_fact.new.work.bank c.args.history.now (c.ready_histories.ensures.grown c.args.work.now.bank c.event_fact.new.work.bank c.args.history.now c.requires.stands.history c.event_fact.ensures.grows.bank c.requires.ready)

pub returns-in-None-clause-grows : goal.returns-in-None-clause-grows
returns-in-None-clause-grows c = WorkGrows-trans c.args.history.now c.args.work.now c.event_fact.new.work c.row_fact.new.work c.event_fact.ensures.grows c.row_fact.ensures.grows
