use Rattle.nq_kernel.proofs.GrowingLemmas.{WorkGrows-trans}
use Rattle.nq_lines.proofs.TermLemmas.{term_grown}
use Rattle.nq_reduce.proofs.RewritingLemmas.{can_grown, can_term, rewritten_now, told_before}
use Rattle.nq_reduce.proofs.distinct.lost_by_equation.Goals as goal

pub by_sides-requires-clause-can : goal.by_sides-requires-clause-can
by_sides-requires-clause-can c = can_term c.args.history.now c.args.work.now c.args.assumed.now c.args.t c.args.a c.requires.can c.requires.side

pub lost_by_side-requires-clause-can : goal.lost_by_side-requires-clause-can
lost_by_side-requires-clause-can c = can_grown c.args.history.now c.args.work.now c.by_sides.new.work c.by_sides.ensures.grows c.args.assumed.now c.args.t c.requires.can

pub lost_by_side-requires-clause-side : goal.lost_by_side-requires-clause-side
lost_by_side-requires-clause-side c = term_grown c.args.history.now c.args.work.now c.by_sides.new.work c.args.a c.requires.can.stands c.by_sides.ensures.grows c.requires.side

pub lost_by_side-requires-clause-other : goal.lost_by_side-requires-clause-other
lost_by_side-requires-clause-other c = rewritten_now c.args.history.now c.args.assumed.now c.args.work.now c.by_sides.new.work c.args.a c.in_ok-other.other c.by_sides.ensures.grows (can_term c.args.history.now c.args.work.now c.args.assumed.now c.args.t c.args.a c.requires.can c.requires.side) c.in_ok-other.ensures.ok

pub returns-clause-ok : goal.returns-clause-ok
returns-clause-ok c = told_before c.args.history.now c.args.assumed.now c.args.work.now c.by_sides.new.work c.lost_by_side.new.work c.args.t c.lost_by_side.result c.by_sides.ensures.grows c.requires.can c.lost_by_side.ensures.ok

pub returns-clause-grows : goal.returns-clause-grows
returns-clause-grows c = (WorkGrows-trans c.args.history.now c.args.work.now c.by_sides.new.work c.lost_by_side.new.work c.by_sides.ensures.grows c.lost_by_side.ensures.grows)
