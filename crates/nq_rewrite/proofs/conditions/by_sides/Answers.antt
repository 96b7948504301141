use Rattle.std.proofs.Common.{refl}
use Rattle.nq_kernel.proofs.GrowingLemmas.{WorkGrows-trans}
use Rattle.nq_lines.proofs.LineLemmas.{only_stands}
use Rattle.nq_lines.proofs.TermLemmas.{term_grown}
use Rattle.nq_reduce.proofs.RewritingLemmas.{can_grown, told_before}
use Rattle.nq_reduce.proofs.HeldLemmas.{unchanged_after}
use Rattle.nq_rewrite.proofs.conditions.by_sides.Goals as goal

pub by_line-requires-clause-can : goal.by_line-requires-clause-can
by_line-requires-clause-can c = can_grown c.args.history.now c.args.work.now c.equate.new.work c.equate.ensures.grows c.args.assumed.now c.args.t c.requires.can

pub by_line-requires-clause-left : goal.by_line-requires-clause-left
by_line-requires-clause-left c = term_grown c.args.history.now c.args.work.now c.equate.new.work c.args.sides.left c.requires.can.stands c.equate.ensures.grows c.requires.left

pub by_line-requires-clause-line : goal.by_line-requires-clause-line
by_line-requires-clause-line c = only_stands c.equate.new.work c.args.line _ (c.if-has_only.ensures refl)

pub returns-then-has_only-clause-ok : goal.returns-then-has_only-clause-ok
returns-then-has_only-clause-ok c = told_before c.args.history.now c.args.assumed.now c.args.work.now c.equate.new.work c.by_line.new.work c.args.t c.by_line.result c.equate.ensures.grows c.requires.can c.by_line.ensures.ok

pub returns-then-has_only-clause-grows : goal.returns-then-has_only-clause-grows
returns-then-has_only-clause-grows c = (WorkGrows-trans c.args.history.now c.args.work.now c.equate.new.work c.by_line.new.work c.equate.ensures.grows c.by_line.ensures.grows)

pub returns-else-has_only-clause-ok : goal.returns-else-has_only-clause-ok
returns-else-has_only-clause-ok c = unchanged_after c.args.history.now c.args.work.now c.equate.new.work c.args.assumed.now c.args.t c.unchanged.result c.equate.ensures.grows c.requires.can c.unchanged.ensures.term c.unchanged.ensures.line
