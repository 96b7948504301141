use Rattle.nq_kernel.proofs.GrowingLemmas.{WorkGrows-trans}
use Rattle.std.proofs.Common.{subst}
use Rattle.std.specs.Prelude.{IfSome}
use Rattle.nq_reduce.specs.Clauses.{LineIsIn}
use Rattle.nq_reduce.proofs.RewritingLemmas.{can_grown}
use Rattle.nq_reduce.proofs.HeldLemmas.{held_before}
use Rattle.nq_reduce.proofs.restricted.default_by_object.Goals as goal

pub default_by_line-requires-clause-can : goal.default_by_line-requires-clause-can
default_by_line-requires-clause-can c = can_grown c.args.history.now c.args.work.now c.parted_line.new.work c.parted_line.ensures.grows c.args.assumed.now c.args.e c.requires.can

pub default_by_line-requires-clause-line : goal.default_by_line-requires-clause-line
default_by_line-requires-clause-line c = (subst (λ o. IfSome o (LineIsIn c.args.history.now c.parted_line.new.work)) c.in-Some.is c.in_ok-line.ensures.line)

pub returns-in-Some-clause-held : goal.returns-in-Some-clause-held
returns-in-Some-clause-held c = held_before c.args.history.now c.args.work.now c.parted_line.new.work c.parted_line.ensures.grows c.args.assumed.now c.args.e c.requires.can c.default_by_line.new.work c.default_by_line.result c.default_by_line.ensures.held

pub returns-in-Some-clause-grows : goal.returns-in-Some-clause-grows
returns-in-Some-clause-grows c = WorkGrows-trans c.args.history.now c.args.work.now c.parted_line.new.work c.default_by_line.new.work c.parted_line.ensures.grows c.default_by_line.ensures.grows
