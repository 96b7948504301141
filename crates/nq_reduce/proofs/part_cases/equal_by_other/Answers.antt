use Rattle.nq_kernel.proofs.GrowingLemmas.{WorkGrows-trans}
use Rattle.nq_lines.proofs.TermLemmas.{term_grown}
use Rattle.nq_reduce.proofs.RewritingLemmas.{can_grown, can_term, rewritten_now, told_before}
use Rattle.nq_reduce.proofs.part_cases.equal_by_other.Goals as goal

pub congruent-requires-clause-can : goal.congruent-requires-clause-can
congruent-requires-clause-can c = (can_term c.args.history.now c.args.work.now c.args.assumed.now c.args.t c.args.l c.requires.can c.requires.object)

pub congruent-requires-clause-argument : goal.congruent-requires-clause-argument
congruent-requires-clause-argument c = c.requires.left

pub equal_moved-requires-clause-can : goal.equal_moved-requires-clause-can
equal_moved-requires-clause-can c = can_grown c.args.history.now c.args.work.now c.congruent.new.work c.congruent.ensures.grows c.args.assumed.now c.args.t c.requires.can

pub equal_moved-requires-clause-object : goal.equal_moved-requires-clause-object
equal_moved-requires-clause-object c = term_grown c.args.history.now c.args.work.now c.congruent.new.work c.args.l c.requires.can.stands c.congruent.ensures.grows c.requires.object

pub equal_moved-requires-clause-moved : goal.equal_moved-requires-clause-moved
equal_moved-requires-clause-moved c = rewritten_now c.args.history.now c.args.assumed.now c.args.work.now c.congruent.new.work c.args.l c.in_ok-moved.moved c.congruent.ensures.grows (can_term c.args.history.now c.args.work.now c.args.assumed.now c.args.t c.args.l c.requires.can c.requires.object) c.in_ok-moved.ensures.ok

pub returns-clause-ok : goal.returns-clause-ok
returns-clause-ok c = told_before c.args.history.now c.args.assumed.now c.args.work.now c.congruent.new.work c.equal_moved.new.work c.args.t c.equal_moved.result c.congruent.ensures.grows c.requires.can c.equal_moved.ensures.ok

pub returns-clause-grows : goal.returns-clause-grows
returns-clause-grows c = WorkGrows-trans c.args.history.now c.args.work.now c.congruent.new.work c.equal_moved.new.work c.congruent.ensures.grows c.equal_moved.ensures.grows
