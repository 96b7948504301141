use Rattle.std.proofs.Common.{List, sym}
use Rattle.nq_bank.specs.declared.node.TermId.{TermId}
use Rattle.nq_history.specs.declared.entry.Entry.{Entry}
use Rattle.nq_kernel.specs.declared.work.Work.{Work}
use Rattle.nq_kernel.proofs.GrowingLemmas.{WorkGrows-trans}
use Rattle.nq_reduce.specs.Rewriting.{branch_of, IsCase}
use Rattle.nq_reduce.proofs.RewritingLemmas.{can_grown, case_grown, rewritten_at, rewritten_now, told_before}
use Rattle.nq_reduce.proofs.joining.reached.Goals as goal

pub follow-requires-clause-can : goal.follow-requires-clause-can
follow-requires-clause-can c = can_grown c.args.history.now c.args.work.now c.choose.new.work c.choose.ensures.grows c.args.assumed.now c.args.t c.requires.can

pub follow-requires-clause-first : goal.follow-requires-clause-first
follow-requires-clause-first c = rewritten_now c.args.history.now c.args.assumed.now c.args.work.now c.choose.new.work c.args.t c.in_ok-taken.taken c.choose.ensures.grows c.requires.can c.in_ok-taken.ensures.ok

pub follow-requires-clause-second : goal.follow-requires-clause-second
follow-requires-clause-second c =
    let h : List Entry = c.args.history.now in
    let hyps : List TermId = c.args.assumed.now in
    let old : Work = c.args.work.now in
    let one : Work = c.choose.new.work in
    let here : IsCase h one hyps c.args.t c.args.parts c.args.test c.args.known c.args.branch c.args.other c.args.news = case_grown h old one hyps c.args.t c.args.parts c.args.test c.args.known c.args.branch c.args.other c.args.news c.choose.ensures.grows c.requires in
    rewritten_at h one hyps (branch_of c.args.parts c.args.known.value) c.in_ok-taken.taken.term c.args.branch (sym c.in_ok-taken.ensures.term) here.rewritten

pub returns-clause-ok : goal.returns-clause-ok
returns-clause-ok c = told_before c.args.history.now c.args.assumed.now c.args.work.now c.choose.new.work c.follow.new.work c.args.t c.follow.result c.choose.ensures.grows c.requires.can c.follow.ensures.ok

pub returns-clause-grows : goal.returns-clause-grows
returns-clause-grows c = WorkGrows-trans c.args.history.now c.args.work.now c.choose.new.work c.follow.new.work c.choose.ensures.grows c.follow.ensures.grows
