use Rattle.nq_kernel.proofs.GrowingLemmas.{WorkGrows-trans}
use Rattle.nq_lines.proofs.FactLemmas.{own_terms_grown}
use Rattle.nq_elim.proofs.GrownLemmas.{terms_grown}
use Rattle.nq_elim.proofs.eliminating.by_candidate.Goals as goal

pub by_line-requires-clause-ready : goal.by_line-requires-clause-ready
by_line-requires-clause-ready c = own_terms_grown c.args.history.now c.args.work.now c.shell_line.new.work c.shell_line.ensures.grows c.requires.stands c.requires.ready

pub by_line-requires-clause-goal : goal.by_line-requires-clause-goal
by_line-requires-clause-goal c = terms_grown c.args.history.now c.args.work.now c.shell_line.new.work c.requires.stands c.shell_line.ensures.grows c.args.goal.now c.requires.goal

pub returns-in-Some-clause-grows : goal.returns-in-Some-clause-grows
returns-in-Some-clause-grows c = WorkGrows-trans c.args.history.now c.args.work.now c.shell_line.new.work c.by_line.new.work c.shell_line.ensures.grows c.by_line.ensures.grows
