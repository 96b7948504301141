use Rattle.std.proofs.Common.{subst}
use Rattle.std.specs.Prelude.{IfSome}
use Rattle.nq_bank.specs.Content.{term_at, terms_at}
use Rattle.nq_kernel.proofs.GrowingLemmas.{WorkGrows-trans}
use Rattle.nq_reduce.specs.Rewriting.{IsKnown}
use Rattle.nq_reduce.proofs.RewritingLemmas.{can_grown, told_before, known_now}
use Rattle.nq_reduce.proofs.truths.by_truth.Goals as goal

pub truth_told-requires-clause-can : goal.truth_told-requires-clause-can
truth_told-requires-clause-can c = can_grown c.args.history.now c.args.work.now c.settled.new.work c.settled.ensures.grows c.args.assumed.now c.args.t c.requires.can

pub truth_told-requires-clause-known : goal.truth_told-requires-clause-known
truth_told-requires-clause-known c = known_now c.args.history.now c.args.assumed.now c.args.work.now c.settled.new.work c.args.t c.in-Some.known c.settled.ensures.grows c.requires.can (subst (λ o. IfSome o (IsKnown c.settled.new.work (terms_at c.args.work.now.bank c.args.assumed.now) (term_at c.args.work.now.bank c.args.t))) c.in-Some.is c.in_ok-known.ensures.known)

pub returns-in-Some-clause-ok : goal.returns-in-Some-clause-ok
returns-in-Some-clause-ok c = told_before c.args.history.now c.args.assumed.now c.args.work.now c.settled.new.work c.truth_told.new.work c.args.t c.truth_told.result c.settled.ensures.grows c.requires.can c.truth_told.ensures.ok

pub returns-in-Some-clause-grows : goal.returns-in-Some-clause-grows
returns-in-Some-clause-grows c = (WorkGrows-trans c.args.history.now c.args.work.now c.settled.new.work c.truth_told.new.work c.settled.ensures.grows c.truth_told.ensures.grows)

pub by_restriction-requires : goal.by_restriction-requires
by_restriction-requires c = record { can = can_grown c.args.history.now c.args.work.now c.settled.new.work c.settled.ensures.grows c.args.assumed.now c.args.t c.requires.can }

pub returns-in-None-clause-ok : goal.returns-in-None-clause-ok
returns-in-None-clause-ok c = told_before c.args.history.now c.args.assumed.now c.args.work.now c.settled.new.work c.by_restriction.new.work c.args.t c.by_restriction.result c.settled.ensures.grows c.requires.can c.by_restriction.ensures.ok

pub returns-in-None-clause-grows : goal.returns-in-None-clause-grows
returns-in-None-clause-grows c = WorkGrows-trans c.args.history.now c.args.work.now c.settled.new.work c.by_restriction.new.work c.settled.ensures.grows c.by_restriction.ensures.grows
