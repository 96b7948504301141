use Rattle.std.proofs.Common.{subst}
use Rattle.std.specs.Prelude.{IfSome}
use Rattle.nq_kernel.specs.Growing.{LineStands}
use Rattle.nq_kernel.proofs.GrowingLemmas.{WorkGrows-trans}
use Rattle.nq_arithmetic.proofs.Lemmas.{claim_grown, line_later}
use Rattle.nq_arithmetic.proofs.guards.without_claim.Goals as goal

pub join-requires-clause-claim : goal.join-requires-clause-claim
join-requires-clause-claim c = claim_grown c.args.history.now c.args.work.now c.shown.new.work c.requires.stands c.shown.ensures.grows c.args.claim c.requires.claim

pub join-requires-clause-shown : goal.join-requires-clause-shown
join-requires-clause-shown c = line_later c.args.history.now c.args.work.now c.shown.new.work c.requires.stands c.shown.ensures.grows c.args.line c.requires.line

pub join-requires-clause-line : goal.join-requires-clause-line
join-requires-clause-line c = subst (λ o. IfSome o (λ n. LineStands c.shown.new.work n)) c.in-Some.is c.in_ok-other.ensures.line

pub returns-in-Some-clause-grows : goal.returns-in-Some-clause-grows
returns-in-Some-clause-grows c = (WorkGrows-trans c.args.history.now c.args.work.now c.shown.new.work c.join.new.work c.shown.ensures.grows c.join.ensures.grows)

pub returns-in-None-clause-line : goal.returns-in-None-clause-line
returns-in-None-clause-line c = line_later c.args.history.now c.args.work.now c.shown.new.work c.requires.stands c.shown.ensures.grows c.args.line c.requires.line
