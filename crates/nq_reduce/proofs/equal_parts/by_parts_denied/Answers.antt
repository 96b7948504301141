use Rattle.nq_kernel.proofs.GrowingLemmas.{WorkGrows-trans}
use Rattle.nq_lines.proofs.TermLemmas.{term_grown}
use Rattle.std.proofs.Common.{◌∷◌}
use Rattle.nq_bank.specs.Content.{term_at, terms_at}
use Rattle.nq_reduce.specs.Rewriting.{denials}
use Rattle.nq_reduce.proofs.RewritingLemmas.{can_grown, can_more, rewritten_now, told_before}
use Rattle.nq_reduce.proofs.ShellLemmas.{denied_still, led_shown}
use Rattle.nq_lines.proofs.LineLemmas.{only_grown}
use Rattle.nq_reduce.proofs.equal_parts.by_parts_denied.Goals as goal

pub equal_case-requires-clause-object : goal.equal_case-requires-clause-object
equal_case-requires-clause-object c = c.requires.sides.left

pub by_parts_first-requires-clause-can : goal.by_parts_first-requires-clause-can
by_parts_first-requires-clause-can c = can_grown c.args.history.now c.args.work.now c.equal_case.new.work c.equal_case.ensures.grows c.args.assumed.now c.args.t c.requires.can

pub by_parts_first-requires-clause-test : goal.by_parts_first-requires-clause-test
by_parts_first-requires-clause-test c = term_grown c.args.history.now c.args.work.now c.equal_case.new.work c.args.p c.requires.can.stands c.equal_case.ensures.grows c.requires.test

pub by_parts_first-requires-clause-denied : goal.by_parts_first-requires-clause-denied
by_parts_first-requires-clause-denied c = denied_still c.args.history.now c.args.work.now c.equal_case.new.work c.equal_case.ensures.grows c.args.p c.args.denied c.requires.test c.requires.denied

pub by_parts_first-requires-clause-over : goal.by_parts_first-requires-clause-over
by_parts_first-requires-clause-over c = term_grown c.args.history.now c.args.work.now c.equal_case.new.work c.args.denied c.requires.can.stands c.equal_case.ensures.grows c.requires.over

pub by_parts_first-requires-clause-line : goal.by_parts_first-requires-clause-line
by_parts_first-requires-clause-line c = led_shown c.args.history.now c.args.work.now c.equal_case.new.work c.equal_case.ensures.grows c.args.assumed.now c.args.p c.args.t c.args.line c.requires.can c.requires.test (only_grown c.args.history.now c.args.work.now c.equal_case.new.work c.args.line ((term_at c.args.work.now.bank c.args.p) ∷ denials ((term_at c.args.work.now.bank c.args.t) ∷ terms_at c.args.work.now.bank c.args.assumed.now)) c.requires.can.stands c.equal_case.ensures.grows c.requires.line)

pub by_parts_first-requires-clause-first : goal.by_parts_first-requires-clause-first
by_parts_first-requires-clause-first c = rewritten_now c.args.history.now (c.args.p ∷ c.args.assumed.now) c.args.work.now c.equal_case.new.work c.args.t c.in_ok-first.first c.equal_case.ensures.grows (can_more c.args.history.now c.args.assumed.now c.args.work.now c.args.p c.args.t c.requires.can c.requires.test) c.in_ok-first.ensures.ok

pub returns-clause-ok : goal.returns-clause-ok
returns-clause-ok c = told_before c.args.history.now c.args.assumed.now c.args.work.now c.equal_case.new.work c.by_parts_first.new.work c.args.t c.by_parts_first.result c.equal_case.ensures.grows c.requires.can c.by_parts_first.ensures.ok

pub returns-clause-grows : goal.returns-clause-grows
returns-clause-grows c = WorkGrows-trans c.args.history.now c.args.work.now c.equal_case.new.work c.by_parts_first.new.work c.equal_case.ensures.grows c.by_parts_first.ensures.grows
