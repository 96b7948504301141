use Rattle.std.proofs.Common.{subst}
use Rattle.std.specs.Prelude.{IfSome}
use Rattle.nq_bank.specs.Content.{term_at, terms_at}
use Rattle.nq_kernel.proofs.GrowingLemmas.{WorkGrows-trans}
use Rattle.nq_reduce.specs.Rewriting.{IsKnown}
use Rattle.nq_reduce.proofs.RewritingLemmas.{can_grown, can_term, rewritten_after, known_now}
use Rattle.nq_reduce.proofs.HeldLemmas.{held_before}
use Rattle.nq_reduce.proofs.held.relieved.Goals as goal

pub relieved_by-requires-clause-can : goal.relieved_by-requires-clause-can
relieved_by-requires-clause-can c = can_grown c.args.history.now c.args.work.now c.known_truth.new.work c.known_truth.ensures.grows c.args.assumed.now c.args.t c.requires.can

pub relieved_by-requires-clause-new : goal.relieved_by-requires-clause-new
relieved_by-requires-clause-new c = rewritten_after c.args.history.now c.args.work.now c.known_truth.new.work c.known_truth.ensures.grows c.args.assumed.now c.args.t c.args.new c.requires.can c.requires.new

pub relieved_by-requires-clause-known : goal.relieved_by-requires-clause-known
relieved_by-requires-clause-known c = known_now c.args.history.now c.args.assumed.now c.args.work.now c.known_truth.new.work c.args.new.term c.in-Some.known c.known_truth.ensures.grows (can_term c.args.history.now c.args.work.now c.args.assumed.now c.args.t c.args.new.term c.requires.can c.requires.new.new) (subst (λ o. IfSome o (IsKnown c.known_truth.new.work (terms_at c.args.work.now.bank c.args.assumed.now) (term_at c.args.work.now.bank c.args.new.term))) c.in-Some.is c.in_ok-known.ensures.known)

pub returns-in-Some-clause-held : goal.returns-in-Some-clause-held
returns-in-Some-clause-held c = held_before c.args.history.now c.args.work.now c.known_truth.new.work c.known_truth.ensures.grows c.args.assumed.now c.args.t c.requires.can c.relieved_by.new.work c.relieved_by.result c.relieved_by.ensures.held

pub returns-in-Some-clause-grows : goal.returns-in-Some-clause-grows
returns-in-Some-clause-grows c = (WorkGrows-trans c.args.history.now c.args.work.now c.known_truth.new.work c.relieved_by.new.work c.known_truth.ensures.grows c.relieved_by.ensures.grows)
