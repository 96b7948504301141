use Rattle.nq_kernel.proofs.GrowingLemmas.{WorkGrows-trans}
use Rattle.std.proofs.Common.{subst}
use Rattle.std.specs.Prelude.{IfSome}
use Rattle.nq_bank.specs.Content.{terms_at}
use Rattle.nq_reduce.specs.Held.{IsHeld}
use Rattle.nq_reduce.proofs.RewritingLemmas.{can_grown, can_term, argument_grown}
use Rattle.nq_reduce.proofs.HeldLemmas.{held_now, known_told}
use Rattle.nq_reduce.proofs.restricted.told_of_default.Goals as goal

pub default_fact-requires : goal.default_fact-requires
default_fact-requires c = record { can = (can_term c.args.history.now c.args.work.now c.args.assumed.now c.args.t c.args.x c.requires.can c.requires.argument.argument) }

pub told_by_fact-requires-clause-can : goal.told_by_fact-requires-clause-can
told_by_fact-requires-clause-can c = can_grown c.args.history.now c.args.work.now c.default_fact.new.work c.default_fact.ensures.grows c.args.assumed.now c.args.t c.requires.can

pub told_by_fact-requires-clause-argument : goal.told_by_fact-requires-clause-argument
told_by_fact-requires-clause-argument c = argument_grown c.args.history.now c.args.work.now c.default_fact.new.work c.default_fact.ensures.grows c.args.t 1 c.args.x c.requires.can.stands c.requires.can.term c.requires.argument

pub told_by_fact-requires-clause-fact : goal.told_by_fact-requires-clause-fact
told_by_fact-requires-clause-fact c = held_now c.args.history.now c.args.work.now c.default_fact.new.work c.default_fact.ensures.grows c.args.assumed.now c.args.t c.requires.can c.in-Some.fact (subst (λ o. IfSome o (IsHeld c.args.history.now c.default_fact.new.work (terms_at c.args.work.now.bank c.args.assumed.now))) c.in-Some.is c.in_ok-fact.ensures.held)

pub returns-in-Some-clause-known : goal.returns-in-Some-clause-known
returns-in-Some-clause-known c = known_told c.args.history.now c.args.work.now c.default_fact.new.work c.default_fact.ensures.grows c.args.assumed.now c.args.t c.requires.can c.told_by_fact.new.work c.told_by_fact.result c.told_by_fact.ensures.known

pub returns-in-Some-clause-grows : goal.returns-in-Some-clause-grows
returns-in-Some-clause-grows c = WorkGrows-trans c.args.history.now c.args.work.now c.default_fact.new.work c.told_by_fact.new.work c.default_fact.ensures.grows c.told_by_fact.ensures.grows
