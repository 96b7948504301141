use Rattle.nq_kernel.proofs.GrowingLemmas.{WorkGrows-trans}
use Rattle.nq_lines.proofs.TermLemmas.{term_grown}
use Rattle.std.proofs.Common.{◌∷◌}
use Rattle.nq_reduce.proofs.RewritingLemmas.{can_grown, can_more, rewritten_now, rewritten_after, told_before}
use Rattle.nq_reduce.proofs.ShellLemmas.{denied_still}
use Rattle.nq_reduce.proofs.divided.divided.Goals as goal

pub divided_by-requires-clause-can : goal.divided_by-requires-clause-can
divided_by-requires-clause-can c = can_grown c.args.history.now c.args.work.now c.doubled.new.work c.doubled.ensures.grows c.args.assumed.now c.args.t c.requires.can

pub divided_by-requires-clause-whole : goal.divided_by-requires-clause-whole
divided_by-requires-clause-whole c = rewritten_now c.args.history.now c.args.assumed.now c.args.work.now c.doubled.new.work c.args.t c.in_ok-whole.whole c.doubled.ensures.grows c.requires.can c.in_ok-whole.ensures.ok

pub divided_by-requires-clause-test : goal.divided_by-requires-clause-test
divided_by-requires-clause-test c = term_grown c.args.history.now c.args.work.now c.doubled.new.work c.args.p c.requires.can.stands c.doubled.ensures.grows c.requires.test

pub divided_by-requires-clause-denied : goal.divided_by-requires-clause-denied
divided_by-requires-clause-denied c = denied_still c.args.history.now c.args.work.now c.doubled.new.work c.doubled.ensures.grows c.args.p c.args.denied c.requires.test c.requires.denied

pub divided_by-requires-clause-over : goal.divided_by-requires-clause-over
divided_by-requires-clause-over c = term_grown c.args.history.now c.args.work.now c.doubled.new.work c.args.denied c.requires.can.stands c.doubled.ensures.grows c.requires.over

pub divided_by-requires-clause-first : goal.divided_by-requires-clause-first
divided_by-requires-clause-first c = rewritten_after c.args.history.now c.args.work.now c.doubled.new.work c.doubled.ensures.grows (c.args.p ∷ c.args.assumed.now) c.args.t c.args.first (can_more c.args.history.now c.args.assumed.now c.args.work.now c.args.p c.args.t c.requires.can c.requires.test) c.requires.first

pub divided_by-requires-clause-second : goal.divided_by-requires-clause-second
divided_by-requires-clause-second c = rewritten_after c.args.history.now c.args.work.now c.doubled.new.work c.doubled.ensures.grows (c.args.denied ∷ c.args.assumed.now) c.args.t c.args.second (can_more c.args.history.now c.args.assumed.now c.args.work.now c.args.denied c.args.t c.requires.can c.requires.over) c.requires.second

pub returns-clause-ok : goal.returns-clause-ok
returns-clause-ok c = told_before c.args.history.now c.args.assumed.now c.args.work.now c.doubled.new.work c.divided_by.new.work c.args.t c.divided_by.result c.doubled.ensures.grows c.requires.can c.divided_by.ensures.ok

pub returns-clause-grows : goal.returns-clause-grows
returns-clause-grows c = WorkGrows-trans c.args.history.now c.args.work.now c.doubled.new.work c.divided_by.new.work c.doubled.ensures.grows c.divided_by.ensures.grows
