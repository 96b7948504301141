use Rattle.nq_kernel.proofs.GrowingLemmas.{WorkGrows-trans}
use Rattle.nq_lines.proofs.FactLemmas.{own_terms_grown}
use Rattle.nq_lines.proofs.TermLemmas.{term_grown}
use Rattle.nq_elim.proofs.GrownLemmas.{terms_grown}
use Rattle.nq_elim.proofs.differing.by_sides.Goals as goal

pub by_numbers-requires-clause-ready : goal.by_numbers-requires-clause-ready
by_numbers-requires-clause-ready c = own_terms_grown c.args.history.now c.args.work.now c.number_denied.new.work c.number_denied.ensures.grows c.requires.stands c.requires.ready

pub by_numbers-requires-clause-goal : goal.by_numbers-requires-clause-goal
by_numbers-requires-clause-goal c = terms_grown c.args.history.now c.args.work.now c.number_denied.new.work c.requires.stands c.number_denied.ensures.grows c.args.goal.now c.requires.goal

pub by_numbers-requires-clause-call : goal.by_numbers-requires-clause-call
by_numbers-requires-clause-call c = term_grown c.args.history.now c.args.work.now c.number_denied.new.work c.args.call c.requires.stands c.number_denied.ensures.grows c.requires.call

pub by_numbers-requires-clause-left : goal.by_numbers-requires-clause-left
by_numbers-requires-clause-left c = term_grown c.args.history.now c.args.work.now c.number_denied.new.work c.args.sides.left c.requires.stands c.number_denied.ensures.grows c.requires.left

pub by_numbers-requires-clause-right : goal.by_numbers-requires-clause-right
by_numbers-requires-clause-right c = term_grown c.args.history.now c.args.work.now c.number_denied.new.work c.args.sides.right c.requires.stands c.number_denied.ensures.grows c.requires.right

pub returns-in-Some-clause-grows : goal.returns-in-Some-clause-grows
returns-in-Some-clause-grows c = WorkGrows-trans c.args.history.now c.args.work.now c.number_denied.new.work c.by_numbers.new.work c.number_denied.ensures.grows c.by_numbers.ensures.grows
