use Rattle.nq_kernel.proofs.GrowingLemmas.{WorkGrows-trans}
use Rattle.nq_reduce.proofs.RewritingLemmas.{can_grown, told_before}
use Rattle.nq_reduce.proofs.reducing.reduce_by_divided.Goals as goal

pub by_irreflexivity-requires : goal.by_irreflexivity-requires
by_irreflexivity-requires c = record { can = can_grown c.args.history.now c.args.work.now c.by_divided_part.new.work c.by_divided_part.ensures.grows c.args.assumed.now c.args.t c.requires.can }

pub returns-else-is_some-clause-ok : goal.returns-else-is_some-clause-ok
returns-else-is_some-clause-ok c = told_before c.args.history.now c.args.assumed.now c.args.work.now c.by_divided_part.new.work c.by_irreflexivity.new.work c.args.t c.by_irreflexivity.result c.by_divided_part.ensures.grows c.requires.can c.by_irreflexivity.ensures.ok

pub returns-else-is_some-clause-grows : goal.returns-else-is_some-clause-grows
returns-else-is_some-clause-grows c = (WorkGrows-trans c.args.history.now c.args.work.now c.by_divided_part.new.work c.by_irreflexivity.new.work c.by_divided_part.ensures.grows c.by_irreflexivity.ensures.grows)
