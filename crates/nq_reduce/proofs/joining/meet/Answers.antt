use Rattle.std.proofs.Common.{List}
use Rattle.nq_bank.specs.declared.node.TermId.{TermId}
use Rattle.nq_history.specs.declared.entry.Entry.{Entry}
use Rattle.nq_kernel.specs.declared.work.Work.{Work}
use Rattle.nq_kernel.proofs.GrowingLemmas.{WorkGrows-trans}
use Rattle.nq_reduce.proofs.RewritingLemmas.{can_grown, can_term, ends_at, rewritten_at, rewritten_after, rewritten_now, told_before}
use Rattle.nq_reduce.proofs.joining.meet.Goals as goal

pub follow-requires-clause-can : goal.follow-requires-clause-can
follow-requires-clause-can c = can_grown c.args.history.now c.args.work.now c.back.new.work c.back.ensures.grows c.args.assumed.now c.args.t c.requires.can

pub follow-requires-clause-first : goal.follow-requires-clause-first
follow-requires-clause-first c = rewritten_after c.args.history.now c.args.work.now c.back.new.work c.back.ensures.grows c.args.assumed.now c.args.t c.args.left c.requires.can c.requires.left

pub follow-requires-clause-second : goal.follow-requires-clause-second
follow-requires-clause-second c =
    let h : List Entry = c.args.history.now in
    let hyps : List TermId = c.args.assumed.now in
    let old : Work = c.args.work.now in
    let one : Work = c.back.new.work in
    rewritten_at h one hyps c.args.right.term c.args.left.term c.in_ok-rest.rest c.requires.meets (rewritten_now h hyps old one c.args.right.term c.in_ok-rest.rest c.back.ensures.grows (can_term h old hyps c.args.t c.args.right.term c.requires.can c.requires.right.new) c.in_ok-rest.ensures.ok)

pub returns-clause-ok : goal.returns-clause-ok
returns-clause-ok c = told_before c.args.history.now c.args.assumed.now c.args.work.now c.back.new.work c.follow.new.work c.args.t c.follow.result c.back.ensures.grows c.requires.can c.follow.ensures.ok

pub returns-clause-same : goal.returns-clause-same
returns-clause-same c = ends_at c.follow.result c.in_ok-rest.rest.term c.args.u c.in_ok-rest.ensures.same c.follow.ensures.last

pub returns-clause-grows : goal.returns-clause-grows
returns-clause-grows c = WorkGrows-trans c.args.history.now c.args.work.now c.back.new.work c.follow.new.work c.back.ensures.grows c.follow.ensures.grows
