use Rattle.nq_kernel.proofs.GrowingLemmas.{WorkGrows-trans}
use Rattle.nq_lines.proofs.TermLemmas.{term_grown}
use Rattle.nq_rewrite.proofs.remade.above_zero.Goals as goal

pub equate-requires-clause-left : goal.equate-requires-clause-left
equate-requires-clause-left c = term_grown c.args.history.now c.args.work.now c.zero.new.work c.args.n c.requires.stands c.zero.ensures.grows c.requires.term

pub returns-in_err-equation-clause-grows : goal.returns-in_err-equation-clause-grows
returns-in_err-equation-clause-grows c = WorkGrows-trans c.args.history.now c.args.work.now c.zero.new.work c.equate.new.work c.zero.ensures.grows c.equate.ensures.grows

pub returns-clause-grows : goal.returns-clause-grows
returns-clause-grows c = WorkGrows-trans c.args.history.now c.args.work.now c.equate.new.work c.deny.new.work (WorkGrows-trans c.args.history.now c.args.work.now c.zero.new.work c.equate.new.work c.zero.ensures.grows c.equate.ensures.grows) c.deny.ensures.grows
