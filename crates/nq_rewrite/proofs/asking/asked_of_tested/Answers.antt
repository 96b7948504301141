use Rattle.nq_kernel.proofs.GrowingLemmas.{WorkGrows-trans}
use Rattle.nq_reduce.proofs.RewritingLemmas.{argument_grown, can_grown, can_term, rewritten_now, told_before}
use Rattle.nq_rewrite.proofs.asking.asked_of_tested.Goals as goal

pub congruent-requires-clause-can : goal.congruent-requires-clause-can
congruent-requires-clause-can c = can_grown c.args.history.now c.args.work.now c.with_test.new.work c.with_test.ensures.grows c.args.assumed.now c.args.t c.requires.can

pub congruent-requires-clause-argument : goal.congruent-requires-clause-argument
congruent-requires-clause-argument c = argument_grown c.args.history.now c.args.work.now c.with_test.new.work c.with_test.ensures.grows c.args.t 1 c.args.a c.requires.can.stands c.requires.can.term c.requires.argument

pub congruent-requires-clause-new : goal.congruent-requires-clause-new
congruent-requires-clause-new c = rewritten_now c.args.history.now c.args.assumed.now c.args.work.now c.with_test.new.work c.args.a c.in_ok-whole.whole c.with_test.ensures.grows (can_term c.args.history.now c.args.work.now c.args.assumed.now c.args.t c.args.a c.requires.can c.requires.argument.argument) c.in_ok-whole.ensures.ok

pub returns-clause-ok : goal.returns-clause-ok
returns-clause-ok c = told_before c.args.history.now c.args.assumed.now c.args.work.now c.with_test.new.work c.congruent.new.work c.args.t c.congruent.result c.with_test.ensures.grows c.requires.can c.congruent.ensures.ok

pub returns-clause-grows : goal.returns-clause-grows
returns-clause-grows c = WorkGrows-trans c.args.history.now c.args.work.now c.with_test.new.work c.congruent.new.work c.with_test.ensures.grows c.congruent.ensures.grows
