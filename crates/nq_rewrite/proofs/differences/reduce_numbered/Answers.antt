use Rattle.nq_kernel.proofs.GrowingLemmas.{WorkGrows-trans}
use Rattle.nq_reduce.proofs.RewritingLemmas.{can_grown, told_before}
use Rattle.nq_rewrite.proofs.differences.reduce_numbered.Goals as goal

pub reduce_told-requires : goal.reduce_told-requires
reduce_told-requires c = record { can = can_grown c.args.history.now c.args.work.now c.reduce_kinded.new.work c.reduce_kinded.ensures.grows c.args.assumed.now c.args.t c.requires.can }

pub returns-else-is_some-clause-ok : goal.returns-else-is_some-clause-ok
returns-else-is_some-clause-ok c = told_before c.args.history.now c.args.assumed.now c.args.work.now c.reduce_kinded.new.work c.reduce_told.new.work c.args.t c.reduce_told.result c.reduce_kinded.ensures.grows c.requires.can c.reduce_told.ensures.ok

pub returns-else-is_some-clause-grows : goal.returns-else-is_some-clause-grows
returns-else-is_some-clause-grows c = WorkGrows-trans c.args.history.now c.args.work.now c.reduce_kinded.new.work c.reduce_told.new.work c.reduce_kinded.ensures.grows c.reduce_told.ensures.grows
