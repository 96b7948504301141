use Rattle.std.proofs.Common.{subst}
use Rattle.std.specs.Prelude.{IfSome, codes}
use Rattle.nq_bank.specs.Content.{term_at, terms_at}
use Rattle.nq_kernel.proofs.GrowingLemmas.{WorkGrows-trans}
use Rattle.nq_reduce.specs.Rewriting.{IsKnown}
use Rattle.nq_reduce.proofs.StepLemmas.{sides_grown, turned_grown}
use Rattle.nq_reduce.proofs.RewritingLemmas.{can_grown, can_term, known_now}
use Rattle.nq_reduce.proofs.HeldLemmas.{known_told}
use Rattle.nq_reduce.proofs.settling.by_turned.Goals as goal

pub known_truth-requires : goal.known_truth-requires
known_truth-requires c = record { can = can_term c.args.history.now c.args.work.now c.args.assumed.now c.args.t c.args.turned c.requires.can c.requires.turned.there }

pub turned_back-requires-clause-can : goal.turned_back-requires-clause-can
turned_back-requires-clause-can c = can_grown c.args.history.now c.args.work.now c.known_truth.new.work c.known_truth.ensures.grows c.args.assumed.now c.args.t c.requires.can

pub turned_back-requires-clause-sides : goal.turned_back-requires-clause-sides
turned_back-requires-clause-sides c = sides_grown c.args.history.now c.args.work.now c.known_truth.new.work c.known_truth.ensures.grows (codes "EQUAL") c.args.t c.args.sides c.requires.can.stands c.requires.can.term c.requires.sides

pub turned_back-requires-clause-turned : goal.turned_back-requires-clause-turned
turned_back-requires-clause-turned c = turned_grown c.args.history.now c.args.work.now c.known_truth.new.work c.known_truth.ensures.grows c.args.t c.args.sides c.args.turned c.requires.can.stands c.requires.sides c.requires.turned

pub turned_back-requires-clause-known : goal.turned_back-requires-clause-known
turned_back-requires-clause-known c = known_now c.args.history.now c.args.assumed.now c.args.work.now c.known_truth.new.work c.args.turned c.in-Some.known c.known_truth.ensures.grows (can_term c.args.history.now c.args.work.now c.args.assumed.now c.args.t c.args.turned c.requires.can c.requires.turned.there) (subst (λ o. IfSome o (IsKnown c.known_truth.new.work (terms_at c.args.work.now.bank c.args.assumed.now) (term_at c.args.work.now.bank c.args.turned))) c.in-Some.is c.in_ok-known.ensures.known)

pub returns-in-Some-clause-known : goal.returns-in-Some-clause-known
returns-in-Some-clause-known c = known_told c.args.history.now c.args.work.now c.known_truth.new.work c.known_truth.ensures.grows c.args.assumed.now c.args.t c.requires.can c.turned_back.new.work c.turned_back.result c.turned_back.ensures.known

pub returns-in-Some-clause-grows : goal.returns-in-Some-clause-grows
returns-in-Some-clause-grows c = (WorkGrows-trans c.args.history.now c.args.work.now c.known_truth.new.work c.turned_back.new.work c.known_truth.ensures.grows c.turned_back.ensures.grows)
