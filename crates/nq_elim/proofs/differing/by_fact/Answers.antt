use Rattle.nq_kernel.proofs.GrowingLemmas.{WorkGrows-trans}
use Rattle.nq_elim.proofs.GrownLemmas.{terms_grown}
use Rattle.nq_lines.proofs.FactLemmas.{own_terms_grown}
use Rattle.nq_elim.proofs.differing.by_fact.Goals as goal

pub by_reason-requires-clause-ready : goal.by_reason-requires-clause-ready
by_reason-requires-clause-ready c = own_terms_grown c.args.history.now c.args.work.now c.reason_where.new.work c.reason_where.ensures.grows c.requires.stands c.requires.ready

pub by_reason-requires-clause-goal : goal.by_reason-requires-clause-goal
by_reason-requires-clause-goal c = terms_grown c.args.history.now c.args.work.now c.reason_where.new.work c.requires.stands c.reason_where.ensures.grows c.args.goal.now c.requires.goal

pub returns-clause-grows : goal.returns-clause-grows
returns-clause-grows c = WorkGrows-trans c.args.history.now c.args.work.now c.reason_where.new.work c.by_reason.new.work c.reason_where.ensures.grows c.by_reason.ensures.grows
