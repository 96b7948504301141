use Rattle.std.proofs.Common.{subst}
use Rattle.std.specs.Prelude.{IfSome}
use Rattle.nq_bank.specs.Content.{terms_at}
use Rattle.nq_kernel.proofs.GrowingLemmas.{WorkGrows-trans}
use Rattle.nq_reduce.specs.Held.{IsHeld}
use Rattle.nq_reduce.proofs.StepLemmas.{known_back}
use Rattle.nq_reduce.proofs.RewritingLemmas.{can_grown}
use Rattle.nq_reduce.proofs.HeldLemmas.{held_now, known_told}
use Rattle.nq_reduce.proofs.settling.settled_by_kind.Goals as goal

pub known_by_fact-requires-clause-can : goal.known_by_fact-requires-clause-can
known_by_fact-requires-clause-can c = can_grown c.args.history.now c.args.work.now c.recognized.new.work c.recognized.ensures.grows c.args.assumed.now c.args.t c.requires.can

pub known_by_fact-requires-clause-fact : goal.known_by_fact-requires-clause-fact
known_by_fact-requires-clause-fact c = held_now c.args.history.now c.args.work.now c.recognized.new.work c.recognized.ensures.grows c.args.assumed.now c.args.t c.requires.can c.in-Some.fact (subst (λ o. IfSome o (IsHeld c.args.history.now c.recognized.new.work (terms_at c.args.work.now.bank c.args.assumed.now))) c.in-Some.is c.in_ok-fact.ensures.held)

pub settled_by_sides-requires : goal.settled_by_sides-requires
settled_by_sides-requires c = record { can = can_grown c.args.history.now c.args.work.now c.recognized.new.work c.recognized.ensures.grows c.args.assumed.now c.args.t c.requires.can }

pub returns-in-Some-clause-known : goal.returns-in-Some-clause-known
returns-in-Some-clause-known c = known_back c.args.history.now c.args.work.now c.recognized.new.work c.recognized.ensures.grows c.args.assumed.now c.args.t c.requires.can c.known_by_fact.result c.known_by_fact.ensures

pub returns-in-None-clause-known : goal.returns-in-None-clause-known
returns-in-None-clause-known c = known_told c.args.history.now c.args.work.now c.recognized.new.work c.recognized.ensures.grows c.args.assumed.now c.args.t c.requires.can c.settled_by_sides.new.work c.settled_by_sides.result c.settled_by_sides.ensures.known

pub returns-in-None-clause-grows : goal.returns-in-None-clause-grows
returns-in-None-clause-grows c = (WorkGrows-trans c.args.history.now c.args.work.now c.recognized.new.work c.settled_by_sides.new.work c.recognized.ensures.grows c.settled_by_sides.ensures.grows)
