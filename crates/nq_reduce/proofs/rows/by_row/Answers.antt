use Rattle.std.proofs.Common.{subst}
use Rattle.std.specs.Prelude.{IfSome}
use Rattle.nq_kernel.proofs.GrowingLemmas.{WorkGrows-trans}
use Rattle.nq_reduce.specs.Clauses.{LineIsIn}
use Rattle.nq_reduce.proofs.RewritingLemmas.{can_grown, told_before}
use Rattle.nq_reduce.proofs.HeldLemmas.{unchanged_after}
use Rattle.nq_reduce.proofs.rows.by_row.Goals as goal

pub by_instance-requires-clause-can : goal.by_instance-requires-clause-can
by_instance-requires-clause-can c = can_grown c.args.history.now c.args.work.now c.row_instance.new.work c.row_instance.ensures.grows c.args.assumed.now c.args.t c.requires.can

pub by_instance-requires-clause-line : goal.by_instance-requires-clause-line
by_instance-requires-clause-line c = (subst (λ o. IfSome o (LineIsIn c.args.history.now c.row_instance.new.work)) c.in-Some.is c.in_ok-line.ensures.line)

pub returns-in-Some-clause-ok : goal.returns-in-Some-clause-ok
returns-in-Some-clause-ok c = told_before c.args.history.now c.args.assumed.now c.args.work.now c.row_instance.new.work c.by_instance.new.work c.args.t c.by_instance.result c.row_instance.ensures.grows c.requires.can c.by_instance.ensures.ok

pub returns-in-Some-clause-grows : goal.returns-in-Some-clause-grows
returns-in-Some-clause-grows c = (WorkGrows-trans c.args.history.now c.args.work.now c.row_instance.new.work c.by_instance.new.work c.row_instance.ensures.grows c.by_instance.ensures.grows)

pub returns-in-None-clause-ok : goal.returns-in-None-clause-ok
returns-in-None-clause-ok c = unchanged_after c.args.history.now c.args.work.now c.row_instance.new.work c.args.assumed.now c.args.t c.unchanged.result c.row_instance.ensures.grows c.requires.can c.unchanged.ensures.term c.unchanged.ensures.line
