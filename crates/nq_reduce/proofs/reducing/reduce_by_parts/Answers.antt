use Rattle.nq_kernel.proofs.GrowingLemmas.{WorkGrows-trans}
use Rattle.nq_reduce.proofs.RewritingLemmas.{can_grown, told_before}
use Rattle.nq_reduce.proofs.reducing.reduce_by_parts.Goals as goal

pub reduce_by_divided-requires : goal.reduce_by_divided-requires
reduce_by_divided-requires c = record { can = can_grown c.args.history.now c.args.work.now c.by_equal_parts.new.work c.by_equal_parts.ensures.grows c.args.assumed.now c.args.t c.requires.can }

pub returns-else-is_some-clause-ok : goal.returns-else-is_some-clause-ok
returns-else-is_some-clause-ok c = told_before c.args.history.now c.args.assumed.now c.args.work.now c.by_equal_parts.new.work c.reduce_by_divided.new.work c.args.t c.reduce_by_divided.result c.by_equal_parts.ensures.grows c.requires.can c.reduce_by_divided.ensures.ok

pub returns-else-is_some-clause-grows : goal.returns-else-is_some-clause-grows
returns-else-is_some-clause-grows c = (WorkGrows-trans c.args.history.now c.args.work.now c.by_equal_parts.new.work c.reduce_by_divided.new.work c.by_equal_parts.ensures.grows c.reduce_by_divided.ensures.grows)
