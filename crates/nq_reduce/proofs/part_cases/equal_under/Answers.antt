use Rattle.nq_kernel.proofs.GrowingLemmas.{WorkGrows-trans}
use Rattle.nq_lines.proofs.TermLemmas.{term_grown}
use Rattle.nq_reduce.proofs.RewritingLemmas.{can_grown, told_before, argument_grown}
use Rattle.nq_reduce.proofs.StepLemmas.{assumed_held}
use Rattle.nq_reduce.proofs.part_cases.equal_under.Goals as goal

pub opposites-requires-clause-term : goal.opposites-requires-clause-term
opposites-requires-clause-term c = c.requires.assumed.over

pub equal_by_fact-requires-clause-can : goal.equal_by_fact-requires-clause-can
equal_by_fact-requires-clause-can c = can_grown c.args.history.now c.args.work.now c.opposites.new.work c.opposites.ensures.grows c.args.assumed.now c.args.t c.requires.can

pub equal_by_fact-requires-clause-object : goal.equal_by_fact-requires-clause-object
equal_by_fact-requires-clause-object c = term_grown c.args.history.now c.args.work.now c.opposites.new.work c.args.l c.requires.can.stands c.opposites.ensures.grows c.requires.object

pub equal_by_fact-requires-clause-left : goal.equal_by_fact-requires-clause-left
equal_by_fact-requires-clause-left c = argument_grown c.args.history.now c.args.work.now c.opposites.new.work c.opposites.ensures.grows c.args.l c.args.unequal.part c.args.a c.requires.can.stands c.requires.object c.requires.left

pub equal_by_fact-requires-clause-fact : goal.equal_by_fact-requires-clause-fact
equal_by_fact-requires-clause-fact c = assumed_held c.args.history.now c.args.work.now c.opposites.new.work c.args.assumed.now c.args.e c.args.t c.in_ok-line.line c.opposites.ensures.grows c.requires.can c.requires.assumed c.in_ok-line.ensures.line

pub returns-clause-ok : goal.returns-clause-ok
returns-clause-ok c = told_before c.args.history.now c.args.assumed.now c.args.work.now c.opposites.new.work c.equal_by_fact.new.work c.args.t c.equal_by_fact.result c.opposites.ensures.grows c.requires.can c.equal_by_fact.ensures.ok

pub returns-clause-grows : goal.returns-clause-grows
returns-clause-grows c = WorkGrows-trans c.args.history.now c.args.work.now c.opposites.new.work c.equal_by_fact.new.work c.opposites.ensures.grows c.equal_by_fact.ensures.grows
