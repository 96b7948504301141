use Rattle.nq_kernel.proofs.GrowingLemmas.{WorkGrows-trans}
use Rattle.nq_lines.proofs.TermLemmas.{term_grown}
use Rattle.nq_elim.proofs.differing.sum_equation.Goals as goal

pub equate-requires-clause-right : goal.equate-requires-clause-right
equate-requires-clause-right c = term_grown c.args.history.now c.args.work.now c.call_two.new.work c.args.sides.left c.requires.stands c.call_two.ensures.grows c.requires.left

pub returns-clause-grows : goal.returns-clause-grows
returns-clause-grows c = WorkGrows-trans c.args.history.now c.args.work.now c.call_two.new.work c.equate.new.work c.call_two.ensures.grows c.equate.ensures.grows
