use Rattle.nq_kernel.proofs.GrowingLemmas.{WorkGrows-trans}
use Rattle.std.proofs.Common.{◌∷◌}
use Rattle.nq_bank.specs.Content.{term_at, terms_at}
use Rattle.nq_reduce.proofs.RewritingLemmas.{can_grown, can_more, rewritten_now, told_before, known_after, known_true}
use Rattle.nq_reduce.proofs.HeldLemmas.{unchanged_after}
use Rattle.nq_reduce.proofs.truths.true_by_line.Goals as goal

pub true_discharged-requires-clause-can : goal.true_discharged-requires-clause-can
true_discharged-requires-clause-can c = can_grown c.args.history.now c.args.work.now c.true_under.new.work c.true_under.ensures.grows c.args.assumed.now c.args.t c.requires.can

pub true_discharged-requires-clause-line : goal.true_discharged-requires-clause-line
true_discharged-requires-clause-line c = known_true c.true_under.new.work (terms_at c.true_under.new.work.bank c.args.assumed.now) (term_at c.true_under.new.work.bank c.args.t) c.args.known c.if-known.true (known_after c.args.history.now c.args.assumed.now c.args.work.now c.true_under.new.work c.args.t c.args.known c.true_under.ensures.grows c.requires.can c.requires.known)

pub true_discharged-requires-clause-new : goal.true_discharged-requires-clause-new
true_discharged-requires-clause-new c = rewritten_now c.args.history.now (c.args.t ∷ c.args.assumed.now) c.args.work.now c.true_under.new.work c.args.t c.in_ok-new.new c.true_under.ensures.grows (can_more c.args.history.now c.args.assumed.now c.args.work.now c.args.t c.args.t c.requires.can c.requires.can.term) c.in_ok-new.ensures.ok

pub returns-then-known-clause-ok : goal.returns-then-known-clause-ok
returns-then-known-clause-ok c = told_before c.args.history.now c.args.assumed.now c.args.work.now c.true_under.new.work c.true_discharged.new.work c.args.t c.true_discharged.result c.true_under.ensures.grows c.requires.can c.true_discharged.ensures.ok

pub returns-then-known-clause-grows : goal.returns-then-known-clause-grows
returns-then-known-clause-grows c = WorkGrows-trans c.args.history.now c.args.work.now c.true_under.new.work c.true_discharged.new.work c.true_under.ensures.grows c.true_discharged.ensures.grows

pub returns-else-known-clause-ok : goal.returns-else-known-clause-ok
returns-else-known-clause-ok c = unchanged_after c.args.history.now c.args.work.now c.true_under.new.work c.args.assumed.now c.args.t c.unchanged.result c.true_under.ensures.grows c.requires.can c.unchanged.ensures.term c.unchanged.ensures.line
