use Rattle.nq_kernel.proofs.GrowingLemmas.{WorkGrows-trans}
use Rattle.nq_lines.proofs.TermLemmas.{term_grown}
use Rattle.nq_reduce.proofs.RewritingLemmas.{can_grown, can_term, rewritten_now, told_before, argument_grown}
use Rattle.nq_reduce.proofs.part_cases.equal_by_fact.Goals as goal

pub by_sides-requires-clause-can : goal.by_sides-requires-clause-can
by_sides-requires-clause-can c = (can_term c.args.history.now c.args.work.now c.args.assumed.now c.args.t c.args.a c.requires.can c.requires.left.argument)

pub equal_by_other-requires-clause-can : goal.equal_by_other-requires-clause-can
equal_by_other-requires-clause-can c = can_grown c.args.history.now c.args.work.now c.by_sides.new.work c.by_sides.ensures.grows c.args.assumed.now c.args.t c.requires.can

pub equal_by_other-requires-clause-object : goal.equal_by_other-requires-clause-object
equal_by_other-requires-clause-object c = term_grown c.args.history.now c.args.work.now c.by_sides.new.work c.args.l c.requires.can.stands c.by_sides.ensures.grows c.requires.object

pub equal_by_other-requires-clause-left : goal.equal_by_other-requires-clause-left
equal_by_other-requires-clause-left c = argument_grown c.args.history.now c.args.work.now c.by_sides.new.work c.by_sides.ensures.grows c.args.l c.args.unequal.part c.args.a c.requires.can.stands c.requires.object c.requires.left

pub equal_by_other-requires-clause-other : goal.equal_by_other-requires-clause-other
equal_by_other-requires-clause-other c = rewritten_now c.args.history.now c.args.assumed.now c.args.work.now c.by_sides.new.work c.args.a c.in_ok-other.other c.by_sides.ensures.grows (can_term c.args.history.now c.args.work.now c.args.assumed.now c.args.t c.args.a c.requires.can c.requires.left.argument) c.in_ok-other.ensures.ok

pub returns-clause-ok : goal.returns-clause-ok
returns-clause-ok c = told_before c.args.history.now c.args.assumed.now c.args.work.now c.by_sides.new.work c.equal_by_other.new.work c.args.t c.equal_by_other.result c.by_sides.ensures.grows c.requires.can c.equal_by_other.ensures.ok

pub returns-clause-grows : goal.returns-clause-grows
returns-clause-grows c = WorkGrows-trans c.args.history.now c.args.work.now c.by_sides.new.work c.equal_by_other.new.work c.by_sides.ensures.grows c.equal_by_other.ensures.grows
