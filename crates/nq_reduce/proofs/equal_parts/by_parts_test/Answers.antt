use Rattle.nq_kernel.proofs.GrowingLemmas.{WorkGrows-trans}
use Rattle.nq_lines.proofs.TermLemmas.{term_grown}
use Rattle.std.proofs.Common.{◌∷◌}
use Rattle.std.specs.Prelude.{codes}
use Rattle.nq_bank.specs.Content.{term_at, terms_at}
use Rattle.nq_reduce.specs.Rewriting.{denials}
use Rattle.nq_reduce.proofs.RewritingLemmas.{can_grown, told_before, argument_grown}
use Rattle.nq_reduce.proofs.StepLemmas.{sides_grown}
use Rattle.nq_reduce.proofs.ShellLemmas.{denied_made, led_shown}
use Rattle.nq_lines.proofs.LineLemmas.{only_grown}
use Rattle.nq_reduce.proofs.equal_parts.by_parts_test.Goals as goal

pub by_parts_denied-requires-clause-can : goal.by_parts_denied-requires-clause-can
by_parts_denied-requires-clause-can c = can_grown c.args.history.now c.args.work.now c.deny.new.work c.deny.ensures.grows c.args.assumed.now c.args.t c.requires.can

pub by_parts_denied-requires-clause-sides : goal.by_parts_denied-requires-clause-sides
by_parts_denied-requires-clause-sides c = sides_grown c.args.history.now c.args.work.now c.deny.new.work c.deny.ensures.grows (codes "EQUAL") c.args.t c.args.sides c.requires.can.stands c.requires.can.term c.requires.sides

pub by_parts_denied-requires-clause-left : goal.by_parts_denied-requires-clause-left
by_parts_denied-requires-clause-left c = argument_grown c.args.history.now c.args.work.now c.deny.new.work c.deny.ensures.grows c.args.sides.left c.args.unequal.part c.args.a c.requires.can.stands c.requires.sides.left c.requires.left

pub by_parts_denied-requires-clause-test : goal.by_parts_denied-requires-clause-test
by_parts_denied-requires-clause-test c = term_grown c.args.history.now c.args.work.now c.deny.new.work c.args.p c.requires.can.stands c.deny.ensures.grows c.requires.test

pub by_parts_denied-requires-clause-denied : goal.by_parts_denied-requires-clause-denied
by_parts_denied-requires-clause-denied c = denied_made c.args.history.now c.args.work.now c.deny.new.work c.deny.ensures.grows c.args.p c.in_ok-denied.denied c.requires.test c.in_ok-denied.ensures.denied

pub by_parts_denied-requires-clause-line : goal.by_parts_denied-requires-clause-line
by_parts_denied-requires-clause-line c = led_shown c.args.history.now c.args.work.now c.deny.new.work c.deny.ensures.grows c.args.assumed.now c.args.p c.args.t c.args.line c.requires.can c.requires.test (only_grown c.args.history.now c.args.work.now c.deny.new.work c.args.line ((term_at c.args.work.now.bank c.args.p) ∷ denials ((term_at c.args.work.now.bank c.args.t) ∷ terms_at c.args.work.now.bank c.args.assumed.now)) c.requires.can.stands c.deny.ensures.grows c.requires.line)

pub returns-clause-ok : goal.returns-clause-ok
returns-clause-ok c = told_before c.args.history.now c.args.assumed.now c.args.work.now c.deny.new.work c.by_parts_denied.new.work c.args.t c.by_parts_denied.result c.deny.ensures.grows c.requires.can c.by_parts_denied.ensures.ok

pub returns-clause-grows : goal.returns-clause-grows
returns-clause-grows c = WorkGrows-trans c.args.history.now c.args.work.now c.deny.new.work c.by_parts_denied.new.work c.deny.ensures.grows c.by_parts_denied.ensures.grows
