use Rattle.std.proofs.Common.{subst}
use Rattle.std.specs.Prelude.{IfSome}
use Rattle.nq_kernel.proofs.GrowingLemmas.{WorkGrows-trans}
use Rattle.nq_reduce.specs.Clauses.{LineIsIn}
use Rattle.nq_reduce.proofs.RewritingLemmas.{can_grown}
use Rattle.nq_reduce.proofs.HeldLemmas.{held_before}
use Rattle.nq_reduce.proofs.settling.instance_of_row.Goals as goal

pub instance_of_line-requires-clause-can : goal.instance_of_line-requires-clause-can
instance_of_line-requires-clause-can c = can_grown c.args.history.now c.args.work.now c.row_of.new.work c.row_of.ensures.grows c.args.assumed.now c.args.t c.requires.can

pub instance_of_line-requires-clause-line : goal.instance_of_line-requires-clause-line
instance_of_line-requires-clause-line c = (subst (λ o. IfSome o (LineIsIn c.args.history.now c.row_of.new.work)) c.in-Some.is c.in_ok-line.ensures.line)

pub returns-in-Some-clause-held : goal.returns-in-Some-clause-held
returns-in-Some-clause-held c = held_before c.args.history.now c.args.work.now c.row_of.new.work c.row_of.ensures.grows c.args.assumed.now c.args.t c.requires.can c.instance_of_line.new.work c.instance_of_line.result c.instance_of_line.ensures.held

pub returns-in-Some-clause-grows : goal.returns-in-Some-clause-grows
returns-in-Some-clause-grows c = (WorkGrows-trans c.args.history.now c.args.work.now c.row_of.new.work c.instance_of_line.new.work c.row_of.ensures.grows c.instance_of_line.ensures.grows)
