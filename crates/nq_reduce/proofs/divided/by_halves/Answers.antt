use Rattle.nq_kernel.proofs.GrowingLemmas.{WorkGrows-trans}
use Rattle.std.proofs.Common.{subst}
use Rattle.std.specs.Prelude.{IfSome}
use Rattle.nq_lines.specs.Lines.{IsTermIn}
use Rattle.nq_reduce.proofs.RewritingLemmas.{can_grown, told_before}
use Rattle.nq_reduce.proofs.HeldLemmas.{unchanged_after}
use Rattle.nq_reduce.proofs.divided.by_halves.Goals as goal

pub by_part_test-requires-clause-can : goal.by_part_test-requires-clause-can
by_part_test-requires-clause-can c = can_grown c.args.history.now c.args.work.now c.part_test.new.work c.part_test.ensures.grows c.args.assumed.now c.args.t c.requires.can

pub by_part_test-requires-clause-test : goal.by_part_test-requires-clause-test
by_part_test-requires-clause-test c = (subst (λ o. IfSome o (IsTermIn c.args.history.now c.part_test.new.work)) c.in-Some.is c.in_ok-p.ensures.test)

pub returns-in-Some-clause-ok : goal.returns-in-Some-clause-ok
returns-in-Some-clause-ok c = told_before c.args.history.now c.args.assumed.now c.args.work.now c.part_test.new.work c.by_part_test.new.work c.args.t c.by_part_test.result c.part_test.ensures.grows c.requires.can c.by_part_test.ensures.ok

pub returns-in-Some-clause-grows : goal.returns-in-Some-clause-grows
returns-in-Some-clause-grows c = WorkGrows-trans c.args.history.now c.args.work.now c.part_test.new.work c.by_part_test.new.work c.part_test.ensures.grows c.by_part_test.ensures.grows

pub returns-in-None-clause-ok : goal.returns-in-None-clause-ok
returns-in-None-clause-ok c = unchanged_after c.args.history.now c.args.work.now c.part_test.new.work c.args.assumed.now c.args.t c.unchanged.result c.part_test.ensures.grows c.requires.can c.unchanged.ensures.term c.unchanged.ensures.line
