use Rattle.nq_kernel.proofs.GrowingLemmas.{WorkGrows-trans}
use Rattle.nq_reduce.proofs.RewritingLemmas.{can_grown, told_before}
use Rattle.nq_rewrite.proofs.cancelling.equal_to_sum.Goals as goal

pub equal_to-requires-clause-can : goal.equal_to-requires-clause-can
equal_to-requires-clause-can c = can_grown c.args.history.now c.args.work.now c.call_two.new.work c.call_two.ensures.grows c.args.assumed.now c.args.t c.requires.can

pub returns-clause-ok : goal.returns-clause-ok
returns-clause-ok c = told_before c.args.history.now c.args.assumed.now c.args.work.now c.call_two.new.work c.equal_to.new.work c.args.t c.equal_to.result c.call_two.ensures.grows c.requires.can c.equal_to.ensures.ok

pub returns-clause-grows : goal.returns-clause-grows
returns-clause-grows c = WorkGrows-trans c.args.history.now c.args.work.now c.call_two.new.work c.equal_to.new.work c.call_two.ensures.grows c.equal_to.ensures.grows
