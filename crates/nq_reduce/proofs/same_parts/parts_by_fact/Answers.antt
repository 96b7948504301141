use Rattle.nq_kernel.proofs.GrowingLemmas.{WorkGrows-trans}
use Rattle.nq_lines.proofs.TermLemmas.{term_grown}
use Rattle.nq_reduce.proofs.RewritingLemmas.{can_grown, rewritten_now}
use Rattle.nq_reduce.proofs.ShellLemmas.{assumed_still}
use Rattle.nq_reduce.proofs.EqualLemmas.{shows_back}
use Rattle.nq_reduce.proofs.same_parts.parts_by_fact.Goals as goal

pub parts_by_step-requires-clause-can : goal.parts_by_step-requires-clause-can
parts_by_step-requires-clause-can c = can_grown c.args.history.now c.args.work.now c.by_sides.new.work c.by_sides.ensures.grows c.args.assumed.now c.args.a c.requires.can

pub parts_by_step-requires-clause-right : goal.parts_by_step-requires-clause-right
parts_by_step-requires-clause-right c = term_grown c.args.history.now c.args.work.now c.by_sides.new.work c.args.b c.requires.can.stands c.by_sides.ensures.grows c.requires.right

pub parts_by_step-requires-clause-assumed : goal.parts_by_step-requires-clause-assumed
parts_by_step-requires-clause-assumed c = assumed_still c.args.history.now c.args.work.now c.by_sides.new.work c.by_sides.ensures.grows c.args.assumed.now c.args.e c.args.a c.requires.can c.requires.assumed

pub parts_by_step-requires-clause-object : goal.parts_by_step-requires-clause-object
parts_by_step-requires-clause-object c = term_grown c.args.history.now c.args.work.now c.by_sides.new.work c.args.l c.requires.can.stands c.by_sides.ensures.grows c.requires.object

pub parts_by_step-requires-clause-step : goal.parts_by_step-requires-clause-step
parts_by_step-requires-clause-step c = rewritten_now c.args.history.now c.args.assumed.now c.args.work.now c.by_sides.new.work c.args.a c.in_ok-step.step c.by_sides.ensures.grows c.requires.can c.in_ok-step.ensures.ok

pub returns-clause-line : goal.returns-clause-line
returns-clause-line c = shows_back c.args.history.now c.args.work.now c.by_sides.new.work c.parts_by_step.new.work c.by_sides.ensures.grows c.args.assumed.now c.args.a c.args.b c.parts_by_step.result c.requires.can c.requires.right c.parts_by_step.ensures.line

pub returns-clause-grows : goal.returns-clause-grows
returns-clause-grows c = WorkGrows-trans c.args.history.now c.args.work.now c.by_sides.new.work c.parts_by_step.new.work c.by_sides.ensures.grows c.parts_by_step.ensures.grows
