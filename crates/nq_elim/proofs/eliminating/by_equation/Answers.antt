use Rattle.nq_kernel.proofs.GrowingLemmas.{WorkGrows-trans}
use Rattle.nq_lines.proofs.FactLemmas.{own_terms_grown}
use Rattle.nq_elim.proofs.GrownLemmas.{terms_grown}
use Rattle.nq_elim.proofs.eliminating.by_equation.Goals as goal

pub by_reason-requires-clause-ready : goal.by_reason-requires-clause-ready
by_reason-requires-clause-ready c = own_terms_grown c.args.history.now c.args.work.now c.reason_of.new.work c.reason_of.ensures.grows c.requires.stands c.requires.ready

pub by_reason-requires-clause-goal : goal.by_reason-requires-clause-goal
by_reason-requires-clause-goal c = terms_grown c.args.history.now c.args.work.now c.reason_of.new.work c.requires.stands c.reason_of.ensures.grows c.args.goal.now c.requires.goal

pub returns-in-Some-clause-grows : goal.returns-in-Some-clause-grows
returns-in-Some-clause-grows c = WorkGrows-trans c.args.history.now c.args.work.now c.reason_of.new.work c.by_reason.new.work c.reason_of.ensures.grows c.by_reason.ensures.grows
