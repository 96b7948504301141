use Rattle.nq_kernel.proofs.GrowingLemmas.{WorkGrows-trans}
use Rattle.std.proofs.Common.{subst}
use Rattle.std.specs.Prelude.{IfSome}
use Rattle.nq_reduce.specs.Clauses.{LineIsIn}
use Rattle.nq_reduce.proofs.RewritingLemmas.{can_grown}
use Rattle.nq_reduce.proofs.HeldLemmas.{held_before}
use Rattle.nq_reduce.proofs.alike.part_fact_by.Goals as goal

pub part_fact_of-requires-clause-can : goal.part_fact_of-requires-clause-can
part_fact_of-requires-clause-can c = can_grown c.args.history.now c.args.work.now c.row_of.new.work c.row_of.ensures.grows c.args.assumed.now c.args.t c.requires.can

pub part_fact_of-requires-clause-line : goal.part_fact_of-requires-clause-line
part_fact_of-requires-clause-line c = (subst (λ o. IfSome o (LineIsIn c.args.history.now c.row_of.new.work)) c.in-Some.is c.in_ok-line.ensures.line)

pub returns-in-Some-clause-held : goal.returns-in-Some-clause-held
returns-in-Some-clause-held c = held_before c.args.history.now c.args.work.now c.row_of.new.work c.row_of.ensures.grows c.args.assumed.now c.args.t c.requires.can c.part_fact_of.new.work c.part_fact_of.result c.part_fact_of.ensures.held

pub returns-in-Some-clause-grows : goal.returns-in-Some-clause-grows
returns-in-Some-clause-grows c = WorkGrows-trans c.args.history.now c.args.work.now c.row_of.new.work c.part_fact_of.new.work c.row_of.ensures.grows c.part_fact_of.ensures.grows
