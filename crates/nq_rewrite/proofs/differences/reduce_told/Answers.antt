use Rattle.nq_kernel.proofs.GrowingLemmas.{WorkGrows-trans}
use Rattle.nq_reduce.proofs.RewritingLemmas.{can_grown, told_before}
use Rattle.nq_rewrite.proofs.differences.reduce_told.Goals as goal

pub reduce_difference-requires : goal.reduce_difference-requires
reduce_difference-requires c = record { can = can_grown c.args.history.now c.args.work.now c.reduce_true.new.work c.reduce_true.ensures.grows c.args.assumed.now c.args.t c.requires.can }

pub returns-else-is_some-clause-ok : goal.returns-else-is_some-clause-ok
returns-else-is_some-clause-ok c = told_before c.args.history.now c.args.assumed.now c.args.work.now c.reduce_true.new.work c.reduce_difference.new.work c.args.t c.reduce_difference.result c.reduce_true.ensures.grows c.requires.can c.reduce_difference.ensures.ok

pub returns-else-is_some-clause-grows : goal.returns-else-is_some-clause-grows
returns-else-is_some-clause-grows c = WorkGrows-trans c.args.history.now c.args.work.now c.reduce_true.new.work c.reduce_difference.new.work c.reduce_true.ensures.grows c.reduce_difference.ensures.grows
