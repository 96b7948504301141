use Rattle.nq_kernel.proofs.GrowingLemmas.{WorkGrows-trans}
use Rattle.nq_reduce.proofs.RewritingLemmas.{can_grown}
use Rattle.nq_reduce.proofs.HeldLemmas.{known_told}
use Rattle.nq_reduce.proofs.ShellLemmas.{denied_made}
use Rattle.nq_reduce.proofs.restricted.told_of_part.Goals as goal

pub told_if_denied-requires-clause-can : goal.told_if_denied-requires-clause-can
told_if_denied-requires-clause-can c = can_grown c.args.history.now c.args.work.now c.deny.new.work c.deny.ensures.grows c.args.assumed.now c.args.t c.requires.can

pub told_if_denied-requires-clause-denied : goal.told_if_denied-requires-clause-denied
told_if_denied-requires-clause-denied c = denied_made c.args.history.now c.args.work.now c.deny.new.work c.deny.ensures.grows c.args.t c.in_ok-denied.denied c.requires.can.term c.in_ok-denied.ensures.denied

pub returns-clause-known : goal.returns-clause-known
returns-clause-known c = known_told c.args.history.now c.args.work.now c.deny.new.work c.deny.ensures.grows c.args.assumed.now c.args.t c.requires.can c.told_if_denied.new.work c.told_if_denied.result c.told_if_denied.ensures.known

pub returns-clause-grows : goal.returns-clause-grows
returns-clause-grows c = WorkGrows-trans c.args.history.now c.args.work.now c.deny.new.work c.told_if_denied.new.work c.deny.ensures.grows c.told_if_denied.ensures.grows
