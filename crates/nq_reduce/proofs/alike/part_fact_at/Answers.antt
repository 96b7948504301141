use Rattle.nq_kernel.proofs.GrowingLemmas.{WorkGrows-trans}
use Rattle.std.proofs.Common.{subst}
use Rattle.std.specs.Prelude.{IfSome}
use Rattle.nq_reduce.specs.Clauses.{LineIsIn}
use Rattle.nq_reduce.proofs.RewritingLemmas.{can_grown}
use Rattle.nq_reduce.proofs.HeldLemmas.{held_before}
use Rattle.nq_reduce.proofs.alike.part_fact_at.Goals as goal

pub shown_by-requires-clause-can : goal.shown_by-requires-clause-can
shown_by-requires-clause-can c = can_grown c.args.history.now c.args.work.now c.pattern_line.new.work c.pattern_line.ensures.grows c.args.assumed.now c.args.t c.requires.can

pub shown_by-requires-clause-line : goal.shown_by-requires-clause-line
shown_by-requires-clause-line c = (subst (λ o. IfSome o (LineIsIn c.args.history.now c.pattern_line.new.work)) c.in-Some.is c.in_ok-made.ensures.line)

pub returns-in-Some-clause-held : goal.returns-in-Some-clause-held
returns-in-Some-clause-held c = held_before c.args.history.now c.args.work.now c.pattern_line.new.work c.pattern_line.ensures.grows c.args.assumed.now c.args.t c.requires.can c.shown_by.new.work c.shown_by.result c.shown_by.ensures.held

pub returns-in-Some-clause-grows : goal.returns-in-Some-clause-grows
returns-in-Some-clause-grows c = WorkGrows-trans c.args.history.now c.args.work.now c.pattern_line.new.work c.shown_by.new.work c.pattern_line.ensures.grows c.shown_by.ensures.grows
