use Rattle.nq_kernel.proofs.GrowingLemmas.{WorkGrows-trans}
use Rattle.nq_reduce.proofs.StepLemmas.{assumed_held}
use Rattle.nq_reduce.proofs.RewritingLemmas.{can_grown, told_before}
use Rattle.nq_reduce.proofs.equations.by_assumed.Goals as goal

pub opposites-requires-clause-term : goal.opposites-requires-clause-term
opposites-requires-clause-term c = c.requires.assumed.over

pub by_sides-requires-clause-can : goal.by_sides-requires-clause-can
by_sides-requires-clause-can c = can_grown c.args.history.now c.args.work.now c.opposites.new.work c.opposites.ensures.grows c.args.assumed.now c.args.t c.requires.can

pub by_sides-requires-clause-fact : goal.by_sides-requires-clause-fact
by_sides-requires-clause-fact c = assumed_held c.args.history.now c.args.work.now c.opposites.new.work c.args.assumed.now c.args.a c.args.t c.in_ok-line.line c.opposites.ensures.grows c.requires.can c.requires.assumed c.in_ok-line.ensures.line

pub returns-clause-ok : goal.returns-clause-ok
returns-clause-ok c = told_before c.args.history.now c.args.assumed.now c.args.work.now c.opposites.new.work c.by_sides.new.work c.args.t c.by_sides.result c.opposites.ensures.grows c.requires.can c.by_sides.ensures.ok

pub returns-clause-grows : goal.returns-clause-grows
returns-clause-grows c = (WorkGrows-trans c.args.history.now c.args.work.now c.opposites.new.work c.by_sides.new.work c.opposites.ensures.grows c.by_sides.ensures.grows)
