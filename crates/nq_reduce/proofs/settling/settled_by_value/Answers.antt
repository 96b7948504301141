use Rattle.nq_kernel.proofs.GrowingLemmas.{WorkGrows-trans}
use Rattle.nq_reduce.proofs.RewritingLemmas.{can_grown, rewritten_now}
use Rattle.nq_reduce.proofs.HeldLemmas.{known_told}
use Rattle.nq_reduce.proofs.settling.settled_by_value.Goals as goal

pub known_by_value-requires-clause-can : goal.known_by_value-requires-clause-can
known_by_value-requires-clause-can c = can_grown c.args.history.now c.args.work.now c.by_value.new.work c.by_value.ensures.grows c.args.assumed.now c.args.t c.requires.can

pub known_by_value-requires-clause-new : goal.known_by_value-requires-clause-new
known_by_value-requires-clause-new c = rewritten_now c.args.history.now c.args.assumed.now c.args.work.now c.by_value.new.work c.args.t c.in_ok-new.new c.by_value.ensures.grows c.requires.can c.in_ok-new.ensures.ok

pub settled_by_kind-requires : goal.settled_by_kind-requires
settled_by_kind-requires c = record { can = can_grown c.args.history.now c.args.work.now c.by_value.new.work c.by_value.ensures.grows c.args.assumed.now c.args.t c.requires.can }

pub returns-then-is_some-clause-known : goal.returns-then-is_some-clause-known
returns-then-is_some-clause-known c = known_told c.args.history.now c.args.work.now c.by_value.new.work c.by_value.ensures.grows c.args.assumed.now c.args.t c.requires.can c.known_by_value.new.work c.known_by_value.result c.known_by_value.ensures.known

pub returns-then-is_some-clause-grows : goal.returns-then-is_some-clause-grows
returns-then-is_some-clause-grows c = (WorkGrows-trans c.args.history.now c.args.work.now c.by_value.new.work c.known_by_value.new.work c.by_value.ensures.grows c.known_by_value.ensures.grows)

pub returns-else-is_some-clause-known : goal.returns-else-is_some-clause-known
returns-else-is_some-clause-known c = known_told c.args.history.now c.args.work.now c.by_value.new.work c.by_value.ensures.grows c.args.assumed.now c.args.t c.requires.can c.settled_by_kind.new.work c.settled_by_kind.result c.settled_by_kind.ensures.known

pub returns-else-is_some-clause-grows : goal.returns-else-is_some-clause-grows
returns-else-is_some-clause-grows c = (WorkGrows-trans c.args.history.now c.args.work.now c.by_value.new.work c.settled_by_kind.new.work c.by_value.ensures.grows c.settled_by_kind.ensures.grows)
