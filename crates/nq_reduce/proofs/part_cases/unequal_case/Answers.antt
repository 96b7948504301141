use Rattle.nq_kernel.proofs.GrowingLemmas.{WorkGrows-trans}
use Rattle.nq_lines.proofs.TermLemmas.{term_grown}
use Rattle.std.proofs.Common.{◌∷◌}
use Rattle.nq_reduce.proofs.RewritingLemmas.{can_grown, can_more, told_before}
use Rattle.nq_reduce.proofs.EqualLemmas.{unequal_now}
use Rattle.nq_reduce.proofs.part_cases.unequal_case.Goals as goal

pub unequal_false-requires-clause-can : goal.unequal_false-requires-clause-can
unequal_false-requires-clause-can c = can_grown c.args.history.now c.args.work.now c.unequal_line.new.work c.unequal_line.ensures.grows c.args.assumed.now c.args.t c.requires.can

pub unequal_false-requires-clause-over : goal.unequal_false-requires-clause-over
unequal_false-requires-clause-over c = term_grown c.args.history.now c.args.work.now c.unequal_line.new.work c.args.denied c.requires.can.stands c.unequal_line.ensures.grows c.requires.over

pub unequal_false-requires-clause-line : goal.unequal_false-requires-clause-line
unequal_false-requires-clause-line c = unequal_now c.args.history.now c.args.work.now c.unequal_line.new.work c.unequal_line.ensures.grows c.args.assumed.now c.args.t c.args.denied c.in_ok-n.n c.requires.can c.requires.over c.in_ok-n.ensures.line

pub returns-clause-ok : goal.returns-clause-ok
returns-clause-ok c = told_before c.args.history.now (c.args.denied ∷ c.args.assumed.now) c.args.work.now c.unequal_line.new.work c.unequal_false.new.work c.args.t c.unequal_false.result c.unequal_line.ensures.grows (can_more c.args.history.now c.args.assumed.now c.args.work.now c.args.denied c.args.t c.requires.can c.requires.over) c.unequal_false.ensures.ok

pub returns-clause-grows : goal.returns-clause-grows
returns-clause-grows c = WorkGrows-trans c.args.history.now c.args.work.now c.unequal_line.new.work c.unequal_false.new.work c.unequal_line.ensures.grows c.unequal_false.ensures.grows
