use Rattle.nq_kernel.proofs.GrowingLemmas.{WorkGrows-trans}
use Rattle.nq_reduce.proofs.RewritingLemmas.{can_grown, told_before}
use Rattle.nq_rewrite.proofs.conditions.by_test_law.Goals as goal

pub by_sides-requires-clause-can : goal.by_sides-requires-clause-can
by_sides-requires-clause-can c = can_grown c.args.history.now c.args.work.now c.sides_of_law.new.work (WorkGrows-trans c.args.history.now c.args.work.now c.law_line.new.work c.sides_of_law.new.work c.law_line.ensures.grows c.sides_of_law.ensures.grows) c.args.assumed.now c.args.t c.requires.can

pub returns-in_err-sides-clause-grows : goal.returns-in_err-sides-clause-grows
returns-in_err-sides-clause-grows c = WorkGrows-trans c.args.history.now c.args.work.now c.law_line.new.work c.sides_of_law.new.work c.law_line.ensures.grows c.sides_of_law.ensures.grows

pub returns-clause-ok : goal.returns-clause-ok
returns-clause-ok c = told_before c.args.history.now c.args.assumed.now c.args.work.now c.sides_of_law.new.work c.by_sides.new.work c.args.t c.by_sides.result (WorkGrows-trans c.args.history.now c.args.work.now c.law_line.new.work c.sides_of_law.new.work c.law_line.ensures.grows c.sides_of_law.ensures.grows) c.requires.can c.by_sides.ensures.ok

pub returns-clause-grows : goal.returns-clause-grows
returns-clause-grows c = WorkGrows-trans c.args.history.now c.args.work.now c.sides_of_law.new.work c.by_sides.new.work (WorkGrows-trans c.args.history.now c.args.work.now c.law_line.new.work c.sides_of_law.new.work c.law_line.ensures.grows c.sides_of_law.ensures.grows) c.by_sides.ensures.grows
