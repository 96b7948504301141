use Rattle.nq_kernel.proofs.GrowingLemmas.{WorkGrows-trans}
use Rattle.nq_lines.proofs.TermLemmas.{term_grown}
use Rattle.nq_reduce.proofs.StepLemmas.{assumed_held}
use Rattle.nq_reduce.proofs.RewritingLemmas.{can_grown, told_before}
use Rattle.nq_reduce.proofs.distinct.lost_kind.Goals as goal

pub opposites-requires-clause-term : goal.opposites-requires-clause-term
opposites-requires-clause-term c = c.requires.equation.over

pub lost_by_equation-requires-clause-can : goal.lost_by_equation-requires-clause-can
lost_by_equation-requires-clause-can c = can_grown c.args.history.now c.args.work.now c.opposites.new.work c.opposites.ensures.grows c.args.assumed.now c.args.t c.requires.can

pub lost_by_equation-requires-clause-side : goal.lost_by_equation-requires-clause-side
lost_by_equation-requires-clause-side c = term_grown c.args.history.now c.args.work.now c.opposites.new.work c.args.a c.requires.can.stands c.opposites.ensures.grows c.requires.side

pub lost_by_equation-requires-clause-fact : goal.lost_by_equation-requires-clause-fact
lost_by_equation-requires-clause-fact c = assumed_held c.args.history.now c.args.work.now c.opposites.new.work c.args.assumed.now c.args.e c.args.t c.in_ok-line.line c.opposites.ensures.grows c.requires.can c.requires.equation c.in_ok-line.ensures.line

pub returns-clause-ok : goal.returns-clause-ok
returns-clause-ok c = told_before c.args.history.now c.args.assumed.now c.args.work.now c.opposites.new.work c.lost_by_equation.new.work c.args.t c.lost_by_equation.result c.opposites.ensures.grows c.requires.can c.lost_by_equation.ensures.ok

pub returns-clause-grows : goal.returns-clause-grows
returns-clause-grows c = (WorkGrows-trans c.args.history.now c.args.work.now c.opposites.new.work c.lost_by_equation.new.work c.opposites.ensures.grows c.lost_by_equation.ensures.grows)
