use Rattle.nq_kernel.proofs.GrowingLemmas.{WorkGrows-trans}
use Rattle.nq_lines.proofs.TermLemmas.{term_grown}
use Rattle.std.proofs.Common.{subst, ◌∷◌}
use Rattle.std.specs.Prelude.{IfSome}
use Rattle.nq_bank.specs.Content.{term_at, terms_at}
use Rattle.nq_reduce.specs.Rewriting.{IsKnown}
use Rattle.nq_reduce.proofs.RewritingLemmas.{can_grown, can_more, known_now}
use Rattle.nq_reduce.proofs.HeldLemmas.{known_told}
use Rattle.nq_reduce.proofs.ShellLemmas.{denied_still}
use Rattle.nq_reduce.proofs.restricted.told_if_denied.Goals as goal

pub withdrawn-requires-clause-can : goal.withdrawn-requires-clause-can
withdrawn-requires-clause-can c = can_grown c.args.history.now c.args.work.now c.told_under.new.work c.told_under.ensures.grows c.args.assumed.now c.args.t c.requires.can

pub withdrawn-requires-clause-denied : goal.withdrawn-requires-clause-denied
withdrawn-requires-clause-denied c = denied_still c.args.history.now c.args.work.now c.told_under.new.work c.told_under.ensures.grows c.args.t c.args.denied c.requires.can.term c.requires.denied

pub withdrawn-requires-clause-over : goal.withdrawn-requires-clause-over
withdrawn-requires-clause-over c = term_grown c.args.history.now c.args.work.now c.told_under.new.work c.args.denied c.requires.can.stands c.told_under.ensures.grows c.requires.over

pub withdrawn-requires-clause-known : goal.withdrawn-requires-clause-known
withdrawn-requires-clause-known c = known_now c.args.history.now (c.args.denied ∷ c.args.assumed.now) c.args.work.now c.told_under.new.work c.args.t c.in-Some.known c.told_under.ensures.grows (can_more c.args.history.now c.args.assumed.now c.args.work.now c.args.denied c.args.t c.requires.can c.requires.over) (subst (λ o. IfSome o (IsKnown c.told_under.new.work ((term_at c.args.work.now.bank c.args.denied) ∷ (terms_at c.args.work.now.bank c.args.assumed.now)) (term_at c.args.work.now.bank c.args.t))) c.in-Some.is c.in_ok-known.ensures.known)

pub returns-in-Some-clause-known : goal.returns-in-Some-clause-known
returns-in-Some-clause-known c = known_told c.args.history.now c.args.work.now c.told_under.new.work c.told_under.ensures.grows c.args.assumed.now c.args.t c.requires.can c.withdrawn.new.work c.withdrawn.result c.withdrawn.ensures.known

pub returns-in-Some-clause-grows : goal.returns-in-Some-clause-grows
returns-in-Some-clause-grows c = WorkGrows-trans c.args.history.now c.args.work.now c.told_under.new.work c.withdrawn.new.work c.told_under.ensures.grows c.withdrawn.ensures.grows
