use Rattle.std.proofs.Common.{◌∷◌}
use Rattle.nq_bank.specs.Content.{terms_at}
use Rattle.nq_kernel.proofs.GrowingLemmas.{WorkGrows-refl, WorkGrows-trans}
use Rattle.nq_lines.proofs.TermLemmas.{term_grown}
use Rattle.nq_reduce.proofs.RewritingLemmas.{can_grown, can_more, known_after, rewritten_now, told_before}
use Rattle.nq_reduce.proofs.HeldLemmas.{held_known, unchanged_after}
use Rattle.nq_rewrite.proofs.true_calls.reduce_by_truth.Goals as goal

pub without_kind-requires-clause-can : goal.without_kind-requires-clause-can
without_kind-requires-clause-can c = can_grown c.args.history.now c.args.work.now c.truth_under.new.work c.truth_under.ensures.grows c.args.assumed.now c.args.t c.requires.can

pub without_kind-requires-clause-fact : goal.without_kind-requires-clause-fact
without_kind-requires-clause-fact c =
    held_known c.args.history.now c.truth_under.new.work c.truth_under.new.work (terms_at c.truth_under.new.work.bank c.args.assumed.now) c.args.t c.args.known (WorkGrows-refl c.args.history.now c.truth_under.new.work c.truth_under.ensures.grows.stands) c.truth_under.ensures.grows.stands
    (term_grown c.args.history.now c.args.work.now c.truth_under.new.work c.args.t c.requires.can.stands c.truth_under.ensures.grows c.requires.can.term) c.if-known.true
    (known_after c.args.history.now c.args.assumed.now c.args.work.now c.truth_under.new.work c.args.t c.args.known c.truth_under.ensures.grows c.requires.can c.requires.known)

pub without_kind-requires-clause-new : goal.without_kind-requires-clause-new
without_kind-requires-clause-new c = rewritten_now c.args.history.now (c.args.t ∷ c.args.assumed.now) c.args.work.now c.truth_under.new.work c.args.t c.in_ok-new.new c.truth_under.ensures.grows (can_more c.args.history.now c.args.assumed.now c.args.work.now c.args.t c.args.t c.requires.can c.requires.can.term) c.in_ok-new.ensures.ok

pub returns-then-known-clause-ok : goal.returns-then-known-clause-ok
returns-then-known-clause-ok c = told_before c.args.history.now c.args.assumed.now c.args.work.now c.truth_under.new.work c.without_kind.new.work c.args.t c.without_kind.result c.truth_under.ensures.grows c.requires.can c.without_kind.ensures.ok

pub returns-then-known-clause-grows : goal.returns-then-known-clause-grows
returns-then-known-clause-grows c = WorkGrows-trans c.args.history.now c.args.work.now c.truth_under.new.work c.without_kind.new.work c.truth_under.ensures.grows c.without_kind.ensures.grows

pub returns-else-known-clause-ok : goal.returns-else-known-clause-ok
returns-else-known-clause-ok c = unchanged_after c.args.history.now c.args.work.now c.truth_under.new.work c.args.assumed.now c.args.t c.unchanged.result c.truth_under.ensures.grows c.requires.can c.unchanged.ensures.term c.unchanged.ensures.line
