use Rattle.std.proofs.Common.{subst}
use Rattle.std.specs.Prelude.{IfSome}
use Rattle.nq_bank.specs.Content.{terms_at}
use Rattle.nq_kernel.proofs.GrowingLemmas.{WorkGrows-trans}
use Rattle.nq_lines.proofs.TermLemmas.{term_grown}
use Rattle.nq_reduce.specs.Held.{IsHeld}
use Rattle.nq_reduce.proofs.RewritingLemmas.{can_grown, can_term, told_before}
use Rattle.nq_reduce.proofs.HeldLemmas.{held_now, unchanged_after}
use Rattle.nq_reduce.proofs.distinct.by_kind_of.Goals as goal

pub kind_fact-requires : goal.kind_fact-requires
kind_fact-requires c = record { can = can_term c.args.history.now c.args.work.now c.args.assumed.now c.args.t c.args.a c.requires.can c.requires.side }

pub by_kind_fact-requires-clause-can : goal.by_kind_fact-requires-clause-can
by_kind_fact-requires-clause-can c = can_grown c.args.history.now c.args.work.now c.kind_fact.new.work c.kind_fact.ensures.grows c.args.assumed.now c.args.t c.requires.can

pub by_kind_fact-requires-clause-side : goal.by_kind_fact-requires-clause-side
by_kind_fact-requires-clause-side c = term_grown c.args.history.now c.args.work.now c.kind_fact.new.work c.args.a c.requires.can.stands c.kind_fact.ensures.grows c.requires.side

pub by_kind_fact-requires-clause-fact : goal.by_kind_fact-requires-clause-fact
by_kind_fact-requires-clause-fact c = held_now c.args.history.now c.args.work.now c.kind_fact.new.work c.kind_fact.ensures.grows c.args.assumed.now c.args.t c.requires.can c.in-Some.fact (subst (λ o. IfSome o (IsHeld c.args.history.now c.kind_fact.new.work (terms_at c.args.work.now.bank c.args.assumed.now))) c.in-Some.is c.in_ok-fact.ensures.held)

pub returns-in-Some-clause-ok : goal.returns-in-Some-clause-ok
returns-in-Some-clause-ok c = told_before c.args.history.now c.args.assumed.now c.args.work.now c.kind_fact.new.work c.by_kind_fact.new.work c.args.t c.by_kind_fact.result c.kind_fact.ensures.grows c.requires.can c.by_kind_fact.ensures.ok

pub returns-in-Some-clause-grows : goal.returns-in-Some-clause-grows
returns-in-Some-clause-grows c = (WorkGrows-trans c.args.history.now c.args.work.now c.kind_fact.new.work c.by_kind_fact.new.work c.kind_fact.ensures.grows c.by_kind_fact.ensures.grows)

pub returns-in-None-clause-ok : goal.returns-in-None-clause-ok
returns-in-None-clause-ok c = unchanged_after c.args.history.now c.args.work.now c.kind_fact.new.work c.args.assumed.now c.args.t c.unchanged.result c.kind_fact.ensures.grows c.requires.can c.unchanged.ensures.term c.unchanged.ensures.line
