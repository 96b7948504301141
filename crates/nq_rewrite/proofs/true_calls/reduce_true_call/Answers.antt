use Rattle.std.proofs.Common.{subst}
use Rattle.std.specs.Prelude.{IfSome}
use Rattle.nq_bank.specs.Content.{term_at, terms_at}
use Rattle.nq_kernel.proofs.GrowingLemmas.{WorkGrows-trans}
use Rattle.nq_reduce.specs.Rewriting.{IsKnown}
use Rattle.nq_reduce.proofs.RewritingLemmas.{can_grown, known_now, told_before}
use Rattle.nq_reduce.proofs.HeldLemmas.{unchanged_after}
use Rattle.nq_rewrite.proofs.true_calls.reduce_true_call.Goals as goal

pub reduce_by_truth-requires-clause-can : goal.reduce_by_truth-requires-clause-can
reduce_by_truth-requires-clause-can c = can_grown c.args.history.now c.args.work.now c.known_truth.new.work c.known_truth.ensures.grows c.args.assumed.now c.args.t c.requires.can

pub reduce_by_truth-requires-clause-known : goal.reduce_by_truth-requires-clause-known
reduce_by_truth-requires-clause-known c =
    known_now c.args.history.now c.args.assumed.now c.args.work.now c.known_truth.new.work c.args.t c.in-Some.known c.known_truth.ensures.grows c.requires.can
    (subst (λ o. IfSome o (λ known. IsKnown c.known_truth.new.work (terms_at c.args.work.now.bank c.args.assumed.now) (term_at c.args.work.now.bank c.args.t) known)) c.in-Some.is c.in_ok-known.ensures.known)

pub returns-in-Some-clause-ok : goal.returns-in-Some-clause-ok
returns-in-Some-clause-ok c = told_before c.args.history.now c.args.assumed.now c.args.work.now c.known_truth.new.work c.reduce_by_truth.new.work c.args.t c.reduce_by_truth.result c.known_truth.ensures.grows c.requires.can c.reduce_by_truth.ensures.ok

pub returns-in-Some-clause-grows : goal.returns-in-Some-clause-grows
returns-in-Some-clause-grows c = WorkGrows-trans c.args.history.now c.args.work.now c.known_truth.new.work c.reduce_by_truth.new.work c.known_truth.ensures.grows c.reduce_by_truth.ensures.grows

pub returns-in-None-clause-ok : goal.returns-in-None-clause-ok
returns-in-None-clause-ok c = unchanged_after c.args.history.now c.args.work.now c.known_truth.new.work c.args.assumed.now c.args.t c.unchanged.result c.known_truth.ensures.grows c.requires.can c.unchanged.ensures.term c.unchanged.ensures.line
