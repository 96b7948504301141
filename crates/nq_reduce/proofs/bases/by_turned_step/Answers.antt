use Rattle.nq_kernel.proofs.GrowingLemmas.{WorkGrows-trans}
use Rattle.std.proofs.Common.{subst}
use Rattle.std.specs.Prelude.{IfSome, codes}
use Rattle.nq_bank.specs.Content.{term_at, terms_at}
use Rattle.nq_reduce.specs.Rewriting.{IsKnown}
use Rattle.nq_reduce.proofs.RewritingLemmas.{can_grown, can_term, told_before, known_now}
use Rattle.nq_reduce.proofs.HeldLemmas.{unchanged_after}
use Rattle.nq_reduce.proofs.StepLemmas.{sides_grown, turned_grown}
use Rattle.nq_reduce.proofs.bases.by_turned_step.Goals as goal

pub known_by_value-requires-clause-can : goal.known_by_value-requires-clause-can
known_by_value-requires-clause-can c = (can_term c.args.history.now c.args.work.now c.args.assumed.now c.args.t c.args.turned c.requires.can c.requires.turned.there)

pub by_turned_known-requires-clause-can : goal.by_turned_known-requires-clause-can
by_turned_known-requires-clause-can c = can_grown c.args.history.now c.args.work.now c.known_by_value.new.work c.known_by_value.ensures.grows c.args.assumed.now c.args.t c.requires.can

pub by_turned_known-requires-clause-sides : goal.by_turned_known-requires-clause-sides
by_turned_known-requires-clause-sides c = sides_grown c.args.history.now c.args.work.now c.known_by_value.new.work c.known_by_value.ensures.grows (codes "EQUAL") c.args.t c.args.sides c.requires.can.stands c.requires.can.term c.requires.sides

pub by_turned_known-requires-clause-turned : goal.by_turned_known-requires-clause-turned
by_turned_known-requires-clause-turned c = turned_grown c.args.history.now c.args.work.now c.known_by_value.new.work c.known_by_value.ensures.grows c.args.t c.args.sides c.args.turned c.requires.can.stands c.requires.sides c.requires.turned

pub by_turned_known-requires-clause-known : goal.by_turned_known-requires-clause-known
by_turned_known-requires-clause-known c = known_now c.args.history.now c.args.assumed.now c.args.work.now c.known_by_value.new.work c.args.turned c.in-Some.known c.known_by_value.ensures.grows (can_term c.args.history.now c.args.work.now c.args.assumed.now c.args.t c.args.turned c.requires.can c.requires.turned.there) (subst (λ o. IfSome o (IsKnown c.known_by_value.new.work (terms_at c.args.work.now.bank c.args.assumed.now) (term_at c.args.work.now.bank c.args.turned))) c.in-Some.is c.in_ok-known.ensures.known)

pub returns-in-Some-clause-ok : goal.returns-in-Some-clause-ok
returns-in-Some-clause-ok c = told_before c.args.history.now c.args.assumed.now c.args.work.now c.known_by_value.new.work c.by_turned_known.new.work c.args.t c.by_turned_known.result c.known_by_value.ensures.grows c.requires.can c.by_turned_known.ensures.ok

pub returns-in-Some-clause-grows : goal.returns-in-Some-clause-grows
returns-in-Some-clause-grows c = WorkGrows-trans c.args.history.now c.args.work.now c.known_by_value.new.work c.by_turned_known.new.work c.known_by_value.ensures.grows c.by_turned_known.ensures.grows

pub returns-in-None-clause-ok : goal.returns-in-None-clause-ok
returns-in-None-clause-ok c = unchanged_after c.args.history.now c.args.work.now c.known_by_value.new.work c.args.assumed.now c.args.t c.unchanged.result c.known_by_value.ensures.grows c.requires.can c.unchanged.ensures.term c.unchanged.ensures.line
