use Rattle.nq_kernel.proofs.GrowingLemmas.{WorkGrows-trans}
use Rattle.nq_reduce.proofs.RewritingLemmas.{can_grown}
use Rattle.nq_reduce.proofs.HeldLemmas.{known_told}
use Rattle.nq_reduce.proofs.settling.settled.Goals as goal

pub settled_by_value-requires : goal.settled_by_value-requires
settled_by_value-requires c = record { can = can_grown c.args.history.now c.args.work.now c.known_truth.new.work c.known_truth.ensures.grows c.args.assumed.now c.args.t c.requires.can }

pub returns-in-None-clause-known : goal.returns-in-None-clause-known
returns-in-None-clause-known c = known_told c.args.history.now c.args.work.now c.known_truth.new.work c.known_truth.ensures.grows c.args.assumed.now c.args.t c.requires.can c.settled_by_value.new.work c.settled_by_value.result c.settled_by_value.ensures.known

pub returns-in-None-clause-grows : goal.returns-in-None-clause-grows
returns-in-None-clause-grows c = (WorkGrows-trans c.args.history.now c.args.work.now c.known_truth.new.work c.settled_by_value.new.work c.known_truth.ensures.grows c.settled_by_value.ensures.grows)
