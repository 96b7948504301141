use Rattle.nq_kernel.proofs.GrowingLemmas.{WorkGrows-trans}
use Rattle.nq_lines.proofs.TermLemmas.{term_grown}
use Rattle.std.proofs.Common.{◌∷◌}
use Rattle.nq_reduce.proofs.RewritingLemmas.{can_grown, can_more, rewritten_now, rewritten_after, told_before}
use Rattle.nq_reduce.proofs.HeldLemmas.{unchanged_after}
use Rattle.nq_reduce.proofs.ShellLemmas.{denied_still}
use Rattle.nq_reduce.proofs.divided.by_second_case.Goals as goal

pub divided-requires-clause-can : goal.divided-requires-clause-can
divided-requires-clause-can c = can_grown c.args.history.now c.args.work.now c.by_trial_with.new.work c.by_trial_with.ensures.grows c.args.assumed.now c.args.t c.requires.can

pub divided-requires-clause-test : goal.divided-requires-clause-test
divided-requires-clause-test c = term_grown c.args.history.now c.args.work.now c.by_trial_with.new.work c.args.p c.requires.can.stands c.by_trial_with.ensures.grows c.requires.test

pub divided-requires-clause-denied : goal.divided-requires-clause-denied
divided-requires-clause-denied c = denied_still c.args.history.now c.args.work.now c.by_trial_with.new.work c.by_trial_with.ensures.grows c.args.p c.args.denied c.requires.test c.requires.denied

pub divided-requires-clause-over : goal.divided-requires-clause-over
divided-requires-clause-over c = term_grown c.args.history.now c.args.work.now c.by_trial_with.new.work c.args.denied c.requires.can.stands c.by_trial_with.ensures.grows c.requires.over

pub divided-requires-clause-first : goal.divided-requires-clause-first
divided-requires-clause-first c = rewritten_after c.args.history.now c.args.work.now c.by_trial_with.new.work c.by_trial_with.ensures.grows (c.args.p ∷ c.args.assumed.now) c.args.t c.args.first (can_more c.args.history.now c.args.assumed.now c.args.work.now c.args.p c.args.t c.requires.can c.requires.test) c.requires.first

pub divided-requires-clause-second : goal.divided-requires-clause-second
divided-requires-clause-second c = rewritten_now c.args.history.now (c.args.denied ∷ c.args.assumed.now) c.args.work.now c.by_trial_with.new.work c.args.t c.in_ok-second.second c.by_trial_with.ensures.grows (can_more c.args.history.now c.args.assumed.now c.args.work.now c.args.denied c.args.t c.requires.can c.requires.over) c.in_ok-second.ensures.ok

pub returns-else-is_idle-clause-ok : goal.returns-else-is_idle-clause-ok
returns-else-is_idle-clause-ok c = told_before c.args.history.now c.args.assumed.now c.args.work.now c.by_trial_with.new.work c.divided.new.work c.args.t c.divided.result c.by_trial_with.ensures.grows c.requires.can c.divided.ensures.ok

pub returns-else-is_idle-clause-grows : goal.returns-else-is_idle-clause-grows
returns-else-is_idle-clause-grows c = WorkGrows-trans c.args.history.now c.args.work.now c.by_trial_with.new.work c.divided.new.work c.by_trial_with.ensures.grows c.divided.ensures.grows

pub returns-then-is_idle-clause-ok : goal.returns-then-is_idle-clause-ok
returns-then-is_idle-clause-ok c = unchanged_after c.args.history.now c.args.work.now c.by_trial_with.new.work c.args.assumed.now c.args.t c.unchanged.result c.by_trial_with.ensures.grows c.requires.can c.unchanged.ensures.term c.unchanged.ensures.line
