use Rattle.nq_kernel.proofs.GrowingLemmas.{WorkGrows-trans}
use Rattle.nq_lines.proofs.TermLemmas.{term_grown}
use Rattle.nq_reduce.proofs.RewritingLemmas.{can_grown, told_before}
use Rattle.nq_reduce.proofs.ShellLemmas.{denied_made}
use Rattle.nq_reduce.proofs.divided.by_part_test.Goals as goal

pub by_part_cases-requires-clause-can : goal.by_part_cases-requires-clause-can
by_part_cases-requires-clause-can c = can_grown c.args.history.now c.args.work.now c.deny.new.work c.deny.ensures.grows c.args.assumed.now c.args.t c.requires.can

pub by_part_cases-requires-clause-test : goal.by_part_cases-requires-clause-test
by_part_cases-requires-clause-test c = term_grown c.args.history.now c.args.work.now c.deny.new.work c.args.p c.requires.can.stands c.deny.ensures.grows c.requires.test

pub by_part_cases-requires-clause-denied : goal.by_part_cases-requires-clause-denied
by_part_cases-requires-clause-denied c = denied_made c.args.history.now c.args.work.now c.deny.new.work c.deny.ensures.grows c.args.p c.in_ok-denied.denied c.requires.test c.in_ok-denied.ensures.denied

pub returns-clause-ok : goal.returns-clause-ok
returns-clause-ok c = told_before c.args.history.now c.args.assumed.now c.args.work.now c.deny.new.work c.by_part_cases.new.work c.args.t c.by_part_cases.result c.deny.ensures.grows c.requires.can c.by_part_cases.ensures.ok

pub returns-clause-grows : goal.returns-clause-grows
returns-clause-grows c = WorkGrows-trans c.args.history.now c.args.work.now c.deny.new.work c.by_part_cases.new.work c.deny.ensures.grows c.by_part_cases.ensures.grows
