use Rattle.nq_kernel.proofs.GrowingLemmas.{WorkGrows-trans}
use Rattle.nq_reduce.proofs.RewritingLemmas.{can_grown}
use Rattle.nq_reduce.proofs.HeldLemmas.{known_told}
use Rattle.nq_reduce.proofs.dropping.denied_or_settled.Goals as goal

pub settled-requires : goal.settled-requires
settled-requires c = record { can = can_grown c.args.history.now c.args.work.now c.known_false.new.work c.known_false.ensures.grows c.args.assumed.now c.args.t c.requires.can }

pub returns-in-None-clause-known : goal.returns-in-None-clause-known
returns-in-None-clause-known c = known_told c.args.history.now c.args.work.now c.known_false.new.work c.known_false.ensures.grows c.args.assumed.now c.args.t c.requires.can c.settled.new.work c.settled.result c.settled.ensures.known

pub returns-in-None-clause-grows : goal.returns-in-None-clause-grows
returns-in-None-clause-grows c = WorkGrows-trans c.args.history.now c.args.work.now c.known_false.new.work c.settled.new.work c.known_false.ensures.grows c.settled.ensures.grows
