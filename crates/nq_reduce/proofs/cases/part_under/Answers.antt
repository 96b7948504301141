use Rattle.nq_kernel.proofs.GrowingLemmas.{WorkGrows-trans}
use Rattle.nq_reduce.proofs.RewritingLemmas.{can_grown, told_before}
use Rattle.nq_reduce.proofs.ShellLemmas.{assumed_still}
use Rattle.nq_reduce.proofs.cases.part_under.Goals as goal

pub part_by_equation-requires-clause-can : goal.part_by_equation-requires-clause-can
part_by_equation-requires-clause-can c = can_grown c.args.history.now c.args.work.now c.by_shell.new.work c.by_shell.ensures.grows c.args.assumed.now c.args.t c.requires.can

pub part_by_equation-requires-clause-assumed : goal.part_by_equation-requires-clause-assumed
part_by_equation-requires-clause-assumed c = assumed_still c.args.history.now c.args.work.now c.by_shell.new.work c.by_shell.ensures.grows c.args.assumed.now c.args.h c.args.t c.requires.can c.requires.assumed

pub returns-else-is_some-clause-ok : goal.returns-else-is_some-clause-ok
returns-else-is_some-clause-ok c = told_before c.args.history.now c.args.assumed.now c.args.work.now c.by_shell.new.work c.part_by_equation.new.work c.args.t c.part_by_equation.result c.by_shell.ensures.grows c.requires.can c.part_by_equation.ensures.ok

pub returns-else-is_some-clause-grows : goal.returns-else-is_some-clause-grows
returns-else-is_some-clause-grows c = WorkGrows-trans c.args.history.now c.args.work.now c.by_shell.new.work c.part_by_equation.new.work c.by_shell.ensures.grows c.part_by_equation.ensures.grows
