use Rattle.std.proofs.Common.{List}
use Rattle.nq_bank.specs.declared.node.TermId.{TermId}
use Rattle.nq_history.specs.declared.entry.Entry.{Entry}
use Rattle.nq_kernel.specs.declared.work.Work.{Work}
use Rattle.nq_kernel.specs.Growing.{WorkGrows}
use Rattle.nq_kernel.proofs.GrowingLemmas.{WorkGrows-trans}
use Rattle.nq_lines.proofs.TermLemmas.{term_grown}
use Rattle.nq_reduce.proofs.RewritingLemmas.{argument_grown, can_grown, can_term, rewritten_now, told_before}
use Rattle.nq_literal.proofs.literal.rewrite_denied.Goals as goal

pub congruent-requires-clause-can : goal.congruent-requires-clause-can
congruent-requires-clause-can c = can_grown c.args.history.now c.args.work.now c.rewritten.new.work c.rewritten.ensures.grows c.args.assumed.now c.args.t c.requires.can

pub congruent-requires-clause-argument : goal.congruent-requires-clause-argument
congruent-requires-clause-argument c = argument_grown c.args.history.now c.args.work.now c.rewritten.new.work c.rewritten.ensures.grows c.args.t 1 c.args.p c.requires.can.stands c.requires.can.term c.requires.argument

pub congruent-requires-clause-new : goal.congruent-requires-clause-new
congruent-requires-clause-new c =
    rewritten_now c.args.history.now c.args.assumed.now c.args.work.now c.rewritten.new.work c.args.p c.in_ok-inside.inside c.rewritten.ensures.grows
    (can_term c.args.history.now c.args.work.now c.args.assumed.now c.args.t c.args.p c.requires.can c.requires.argument.argument) c.in_ok-inside.ensures.ok

pub returns-in_err-denial-clause-grows : goal.returns-in_err-denial-clause-grows
returns-in_err-denial-clause-grows c = WorkGrows-trans c.args.history.now c.args.work.now c.rewritten.new.work c.congruent.new.work c.rewritten.ensures.grows c.congruent.ensures.grows

pub rewrite_outside-requires-clause-can : goal.rewrite_outside-requires-clause-can
rewrite_outside-requires-clause-can c =
    can_grown c.args.history.now c.args.work.now c.congruent.new.work (WorkGrows-trans c.args.history.now c.args.work.now c.rewritten.new.work c.congruent.new.work c.rewritten.ensures.grows c.congruent.ensures.grows) c.args.assumed.now c.args.t c.requires.can

pub rewrite_outside-requires-clause-denial : goal.rewrite_outside-requires-clause-denial
rewrite_outside-requires-clause-denial c =
    rewritten_now c.args.history.now c.args.assumed.now c.rewritten.new.work c.congruent.new.work c.args.t c.in_ok-denial.denial c.congruent.ensures.grows
    (can_grown c.args.history.now c.args.work.now c.rewritten.new.work c.rewritten.ensures.grows c.args.assumed.now c.args.t c.requires.can) c.in_ok-denial.ensures.ok

pub rewrite_outside-requires-clause-denied : goal.rewrite_outside-requires-clause-denied
rewrite_outside-requires-clause-denied c = term_grown c.args.history.now c.rewritten.new.work c.congruent.new.work c.in_ok-inside.inside.term c.rewritten.ensures.grows.stands c.congruent.ensures.grows c.in_ok-inside.ensures.ok.new

pub returns-clause-ok : goal.returns-clause-ok
returns-clause-ok c =
    told_before c.args.history.now c.args.assumed.now c.args.work.now c.congruent.new.work c.rewrite_outside.new.work c.args.t c.rewrite_outside.result (WorkGrows-trans c.args.history.now c.args.work.now c.rewritten.new.work c.congruent.new.work c.rewritten.ensures.grows c.congruent.ensures.grows) c.requires.can c.rewrite_outside.ensures.ok

pub returns-clause-grows : goal.returns-clause-grows
returns-clause-grows c =
    WorkGrows-trans c.args.history.now c.args.work.now c.congruent.new.work c.rewrite_outside.new.work (WorkGrows-trans c.args.history.now c.args.work.now c.rewritten.new.work c.congruent.new.work c.rewritten.ensures.grows c.congruent.ensures.grows) c.rewrite_outside.ensures.grows
