use Rattle.nq_kernel.proofs.GrowingLemmas.{WorkGrows-trans}
use Rattle.nq_lines.proofs.TermLemmas.{term_grown}
use Rattle.std.proofs.Common.{◌∷◌}
use Rattle.nq_reduce.proofs.RewritingLemmas.{can_grown, can_more, rewritten_now, told_before}
use Rattle.nq_reduce.proofs.ShellLemmas.{denied_still}
use Rattle.nq_reduce.proofs.divided.by_part_cases.Goals as goal

pub by_second_case-requires-clause-can : goal.by_second_case-requires-clause-can
by_second_case-requires-clause-can c = can_grown c.args.history.now c.args.work.now c.by_trial_with.new.work c.by_trial_with.ensures.grows c.args.assumed.now c.args.t c.requires.can

pub by_second_case-requires-clause-test : goal.by_second_case-requires-clause-test
by_second_case-requires-clause-test c = term_grown c.args.history.now c.args.work.now c.by_trial_with.new.work c.args.p c.requires.can.stands c.by_trial_with.ensures.grows c.requires.test

pub by_second_case-requires-clause-denied : goal.by_second_case-requires-clause-denied
by_second_case-requires-clause-denied c = denied_still c.args.history.now c.args.work.now c.by_trial_with.new.work c.by_trial_with.ensures.grows c.args.p c.args.denied c.requires.test c.requires.denied

pub by_second_case-requires-clause-over : goal.by_second_case-requires-clause-over
by_second_case-requires-clause-over c = term_grown c.args.history.now c.args.work.now c.by_trial_with.new.work c.args.denied c.requires.can.stands c.by_trial_with.ensures.grows c.requires.over

pub by_second_case-requires-clause-first : goal.by_second_case-requires-clause-first
by_second_case-requires-clause-first c = rewritten_now c.args.history.now (c.args.p ∷ c.args.assumed.now) c.args.work.now c.by_trial_with.new.work c.args.t c.in_ok-first.first c.by_trial_with.ensures.grows (can_more c.args.history.now c.args.assumed.now c.args.work.now c.args.p c.args.t c.requires.can c.requires.test) c.in_ok-first.ensures.ok

pub returns-clause-ok : goal.returns-clause-ok
returns-clause-ok c = told_before c.args.history.now c.args.assumed.now c.args.work.now c.by_trial_with.new.work c.by_second_case.new.work c.args.t c.by_second_case.result c.by_trial_with.ensures.grows c.requires.can c.by_second_case.ensures.ok

pub returns-clause-grows : goal.returns-clause-grows
returns-clause-grows c = WorkGrows-trans c.args.history.now c.args.work.now c.by_trial_with.new.work c.by_second_case.new.work c.by_trial_with.ensures.grows c.by_second_case.ensures.grows
