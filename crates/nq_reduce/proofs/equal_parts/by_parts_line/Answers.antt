use Rattle.nq_kernel.proofs.GrowingLemmas.{WorkGrows-trans}
use Rattle.std.specs.Prelude.{codes}
use Rattle.nq_reduce.proofs.RewritingLemmas.{can_grown, told_before, argument_grown}
use Rattle.nq_reduce.proofs.StepLemmas.{sides_grown}
use Rattle.nq_reduce.proofs.EqualLemmas.{parts_said}
use Rattle.nq_reduce.proofs.equal_parts.by_parts_line.Goals as goal

pub by_parts_test-requires-clause-can : goal.by_parts_test-requires-clause-can
by_parts_test-requires-clause-can c = can_grown c.args.history.now c.args.work.now c.equate.new.work c.equate.ensures.grows c.args.assumed.now c.args.t c.requires.can

pub by_parts_test-requires-clause-sides : goal.by_parts_test-requires-clause-sides
by_parts_test-requires-clause-sides c = sides_grown c.args.history.now c.args.work.now c.equate.new.work c.equate.ensures.grows (codes "EQUAL") c.args.t c.args.sides c.requires.can.stands c.requires.can.term c.requires.sides

pub by_parts_test-requires-clause-left : goal.by_parts_test-requires-clause-left
by_parts_test-requires-clause-left c = argument_grown c.args.history.now c.args.work.now c.equate.new.work c.equate.ensures.grows c.args.sides.left c.args.unequal.part c.args.a c.requires.can.stands c.requires.sides.left c.requires.left

pub by_parts_test-requires-clause-test : goal.by_parts_test-requires-clause-test
by_parts_test-requires-clause-test c = c.in_ok-p.ensures.over

pub by_parts_test-requires-clause-line : goal.by_parts_test-requires-clause-line
by_parts_test-requires-clause-line c = parts_said c.args.history.now c.args.work.now c.equate.new.work c.equate.ensures.grows c.args.assumed.now c.args.t c.args.a c.args.b c.in_ok-p.p c.args.line c.requires.can c.in_ok-p.ensures.equation c.requires.line

pub returns-clause-ok : goal.returns-clause-ok
returns-clause-ok c = told_before c.args.history.now c.args.assumed.now c.args.work.now c.equate.new.work c.by_parts_test.new.work c.args.t c.by_parts_test.result c.equate.ensures.grows c.requires.can c.by_parts_test.ensures.ok

pub returns-clause-grows : goal.returns-clause-grows
returns-clause-grows c = WorkGrows-trans c.args.history.now c.args.work.now c.equate.new.work c.by_parts_test.new.work c.equate.ensures.grows c.by_parts_test.ensures.grows
