use Rattle.nq_kernel.proofs.GrowingLemmas.{WorkGrows-trans}
use Rattle.nq_reduce.proofs.RewritingLemmas.{can_grown}
use Rattle.nq_reduce.proofs.HeldLemmas.{known_told}
use Rattle.nq_reduce.proofs.restricted.settled.Goals as goal

pub told_by_part-requires : goal.told_by_part-requires
told_by_part-requires c = record { can = can_grown c.args.history.now c.args.work.now c.settled.new.work c.settled.ensures.grows c.args.assumed.now c.args.t c.requires.can }

pub returns-in-None-clause-known : goal.returns-in-None-clause-known
returns-in-None-clause-known c = known_told c.args.history.now c.args.work.now c.settled.new.work c.settled.ensures.grows c.args.assumed.now c.args.t c.requires.can c.told_by_part.new.work c.told_by_part.result c.told_by_part.ensures.known

pub returns-in-None-clause-grows : goal.returns-in-None-clause-grows
returns-in-None-clause-grows c = WorkGrows-trans c.args.history.now c.args.work.now c.settled.new.work c.told_by_part.new.work c.settled.ensures.grows c.told_by_part.ensures.grows
