use Rattle.std.proofs.Common.{subst}
use Rattle.std.specs.Prelude.{IfSome}
use Rattle.nq_bank.specs.Content.{term_at, terms_at}
use Rattle.nq_kernel.proofs.GrowingLemmas.{WorkGrows-trans}
use Rattle.nq_reduce.specs.Rewriting.{IsKnown}
use Rattle.nq_reduce.proofs.RewritingLemmas.{can_grown, rewritten_after, can_term, known_now}
use Rattle.nq_reduce.proofs.HeldLemmas.{known_told}
use Rattle.nq_reduce.proofs.restricted.told_after.Goals as goal

pub settled-requires : goal.settled-requires
settled-requires c = record { can = can_term c.args.history.now c.args.work.now c.args.assumed.now c.args.t c.args.new.term c.requires.can c.requires.new.new }

pub value_told-requires-clause-can : goal.value_told-requires-clause-can
value_told-requires-clause-can c = can_grown c.args.history.now c.args.work.now c.settled.new.work c.settled.ensures.grows c.args.assumed.now c.args.t c.requires.can

pub value_told-requires-clause-new : goal.value_told-requires-clause-new
value_told-requires-clause-new c = rewritten_after c.args.history.now c.args.work.now c.settled.new.work c.settled.ensures.grows c.args.assumed.now c.args.t c.args.new c.requires.can c.requires.new

pub value_told-requires-clause-known : goal.value_told-requires-clause-known
value_told-requires-clause-known c = known_now c.args.history.now c.args.assumed.now c.args.work.now c.settled.new.work c.args.new.term c.in-Some.known c.settled.ensures.grows (can_term c.args.history.now c.args.work.now c.args.assumed.now c.args.t c.args.new.term c.requires.can c.requires.new.new) (subst (λ o. IfSome o (IsKnown c.settled.new.work (terms_at c.args.work.now.bank c.args.assumed.now) (term_at c.args.work.now.bank c.args.new.term))) c.in-Some.is c.in_ok-known.ensures.known)

pub returns-in-Some-clause-known : goal.returns-in-Some-clause-known
returns-in-Some-clause-known c = known_told c.args.history.now c.args.work.now c.settled.new.work c.settled.ensures.grows c.args.assumed.now c.args.t c.requires.can c.value_told.new.work c.value_told.result c.value_told.ensures.known

pub returns-in-Some-clause-grows : goal.returns-in-Some-clause-grows
returns-in-Some-clause-grows c = (WorkGrows-trans c.args.history.now c.args.work.now c.settled.new.work c.value_told.new.work c.settled.ensures.grows c.value_told.ensures.grows)
