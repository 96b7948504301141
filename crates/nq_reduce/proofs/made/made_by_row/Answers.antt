use Rattle.std.proofs.Common.{subst}
use Rattle.std.specs.Prelude.{IfSome}
use Rattle.nq_kernel.proofs.GrowingLemmas.{WorkGrows-trans}
use Rattle.nq_reduce.specs.Clauses.{LineIsIn}
use Rattle.nq_reduce.proofs.RewritingLemmas.{can_grown}
use Rattle.nq_reduce.proofs.HeldLemmas.{held_before}
use Rattle.nq_reduce.proofs.made.made_by_row.Goals as goal

pub made_by_line-requires-clause-can : goal.made_by_line-requires-clause-can
made_by_line-requires-clause-can c = can_grown c.args.history.now c.args.work.now c.row_of.new.work c.row_of.ensures.grows c.args.assumed.now c.args.t c.requires.can

pub made_by_line-requires-clause-line : goal.made_by_line-requires-clause-line
made_by_line-requires-clause-line c = (subst (λ o. IfSome o (LineIsIn c.args.history.now c.row_of.new.work)) c.in-Some.is c.in_ok-line.ensures.line)

pub returns-in-Some-clause-held : goal.returns-in-Some-clause-held
returns-in-Some-clause-held c = held_before c.args.history.now c.args.work.now c.row_of.new.work c.row_of.ensures.grows c.args.assumed.now c.args.t c.requires.can c.made_by_line.new.work c.made_by_line.result c.made_by_line.ensures.held

pub returns-in-Some-clause-grows : goal.returns-in-Some-clause-grows
returns-in-Some-clause-grows c = (WorkGrows-trans c.args.history.now c.args.work.now c.row_of.new.work c.made_by_line.new.work c.row_of.ensures.grows c.made_by_line.ensures.grows)
