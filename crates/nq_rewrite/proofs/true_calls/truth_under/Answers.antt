use Rattle.std.proofs.Common.{◌∷◌}
use Rattle.nq_kernel.proofs.GrowingLemmas.{WorkGrows-trans}
use Rattle.nq_reduce.proofs.RewritingLemmas.{can_grown, can_more, told_before}
use Rattle.nq_reduce.proofs.HeldLemmas.{unchanged_after}
use Rattle.nq_rewrite.proofs.true_calls.truth_under.Goals as goal

pub truth_by_line-requires : goal.truth_by_line-requires
truth_by_line-requires c = record { can = can_grown c.args.history.now c.args.work.now c.known_at.new.work c.known_at.ensures.grows c.args.assumed.now c.args.t c.requires.can }

pub returns-in-Some-clause-ok : goal.returns-in-Some-clause-ok
returns-in-Some-clause-ok c =
    told_before c.args.history.now (c.args.t ∷ c.args.assumed.now) c.args.work.now c.known_at.new.work c.truth_by_line.new.work c.args.t c.truth_by_line.result c.known_at.ensures.grows
    (can_more c.args.history.now c.args.assumed.now c.args.work.now c.args.t c.args.t c.requires.can c.requires.can.term) c.truth_by_line.ensures.ok

pub returns-in-Some-clause-grows : goal.returns-in-Some-clause-grows
returns-in-Some-clause-grows c = WorkGrows-trans c.args.history.now c.args.work.now c.known_at.new.work c.truth_by_line.new.work c.known_at.ensures.grows c.truth_by_line.ensures.grows

pub returns-in-None-clause-ok : goal.returns-in-None-clause-ok
returns-in-None-clause-ok c =
    unchanged_after c.args.history.now c.args.work.now c.known_at.new.work (c.args.t ∷ c.args.assumed.now) c.args.t c.unchanged.result c.known_at.ensures.grows
    (can_more c.args.history.now c.args.assumed.now c.args.work.now c.args.t c.args.t c.requires.can c.requires.can.term) c.unchanged.ensures.term c.unchanged.ensures.line
