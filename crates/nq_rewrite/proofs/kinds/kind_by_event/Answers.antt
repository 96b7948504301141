use Rattle.std.proofs.Common.{subst}
use Rattle.std.specs.Prelude.{IfSome}
use Rattle.nq_kernel.proofs.GrowingLemmas.{WorkGrows-trans}
use Rattle.nq_lines.specs.Facts.{IsFact}
use Rattle.nq_lines.proofs.TermLemmas.{term_grown}
use Rattle.nq_rewrite.proofs.kinds.kind_by_event.Goals as goal

pub kind_by_row-requires-clause-row : goal.kind_by_row-requires-clause-row
kind_by_row-requires-clause-row c = subst (λ o. IfSome o (IsFact c.args.history.now c.told_kind.new.work)) c.in-Some.is c.in_ok-told.ensures.fact

pub kind_by_row-requires-clause-term : goal.kind_by_row-requires-clause-term
kind_by_row-requires-clause-term c = term_grown c.args.history.now c.args.work.now c.told_kind.new.work c.args.t c.requires.stands c.told_kind.ensures.grows c.requires.term

pub returns-in-Some-clause-grows : goal.returns-in-Some-clause-grows
returns-in-Some-clause-grows c = WorkGrows-trans c.args.history.now c.args.work.now c.told_kind.new.work c.kind_by_row.new.work c.told_kind.ensures.grows c.kind_by_row.ensures.grows
