use Rattle.nq_kernel.proofs.GrowingLemmas.{WorkGrows-trans}
use Rattle.nq_lines.proofs.TermLemmas.{term_grown}
use Rattle.nq_types.proofs.denying.without_constant.Goals as goal

pub without_equation-requires-clause-term : goal.without_equation-requires-clause-term
without_equation-requires-clause-term c = (term_grown c.args.history.now c.args.work.now c.equated.new.work c.args.t c.requires.stands c.equated.ensures.grows c.requires.term)

pub without_equation-requires-clause-constant : goal.without_equation-requires-clause-constant
without_equation-requires-clause-constant c = (term_grown c.args.history.now c.args.work.now c.equated.new.work c.args.c c.requires.stands c.equated.ensures.grows c.requires.constant)

pub returns-clause-grows : goal.returns-clause-grows
returns-clause-grows c = (WorkGrows-trans c.args.history.now c.args.work.now c.equated.new.work c.without_equation.new.work c.equated.ensures.grows c.without_equation.ensures.grows)
