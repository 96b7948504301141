use Rattle.nq_kernel.proofs.GrowingLemmas.{WorkGrows-trans}
use Rattle.nq_lines.proofs.TermLemmas.{term_grown}
use Rattle.nq_reduce.proofs.RewritingLemmas.{can_grown, told_before}
use Rattle.nq_rewrite.proofs.ArithmeticLemmas.{equation_now}
use Rattle.nq_rewrite.proofs.differences.equal_to.Goals as goal

pub equal_by_arithmetic-requires-clause-can : goal.equal_by_arithmetic-requires-clause-can
equal_by_arithmetic-requires-clause-can c = can_grown c.args.history.now c.args.work.now c.equate.new.work c.equate.ensures.grows c.args.assumed.now c.args.t c.requires.can

pub equal_by_arithmetic-requires-clause-other : goal.equal_by_arithmetic-requires-clause-other
equal_by_arithmetic-requires-clause-other c = term_grown c.args.history.now c.args.work.now c.equate.new.work c.args.other c.requires.can.stands c.equate.ensures.grows c.requires.other

pub equal_by_arithmetic-requires-clause-equation : goal.equal_by_arithmetic-requires-clause-equation
equal_by_arithmetic-requires-clause-equation c = equation_now c.args.history.now c.args.work.now c.equate.new.work c.args.t c.args.other c.in_ok-equation.equation c.equate.ensures.grows c.requires.can.term c.requires.other c.in_ok-equation.ensures.equation.denotes

pub returns-clause-ok : goal.returns-clause-ok
returns-clause-ok c = told_before c.args.history.now c.args.assumed.now c.args.work.now c.equate.new.work c.equal_by_arithmetic.new.work c.args.t c.equal_by_arithmetic.result c.equate.ensures.grows c.requires.can c.equal_by_arithmetic.ensures.ok

pub returns-clause-grows : goal.returns-clause-grows
returns-clause-grows c = WorkGrows-trans c.args.history.now c.args.work.now c.equate.new.work c.equal_by_arithmetic.new.work c.equate.ensures.grows c.equal_by_arithmetic.ensures.grows
