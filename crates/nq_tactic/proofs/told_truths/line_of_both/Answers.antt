use Rattle.std.proofs.Common.{subst}
use Rattle.std.specs.Prelude.{IfSome}
use Rattle.nq_kernel.specs.Growing.{LineStands}
use Rattle.nq_kernel.proofs.GrowingLemmas.{WorkGrows-trans}
use Rattle.nq_lines.proofs.FactLemmas.{own_terms_grown}
use Rattle.nq_lines.proofs.TermLemmas.{term_grown}
use Rattle.nq_tactic.proofs.told_truths.line_of_both.Goals as goal

pub line_by_first-requires-clause-ready : goal.line_by_first-requires-clause-ready
line_by_first-requires-clause-ready c = own_terms_grown c.args.history.now c.args.work.now c.known_at.new.work c.known_at.ensures.grows c.requires.stands c.requires.ready

pub line_by_first-requires-clause-left : goal.line_by_first-requires-clause-left
line_by_first-requires-clause-left c = term_grown c.args.history.now c.args.work.now c.known_at.new.work c.args.left c.requires.stands c.known_at.ensures.grows c.requires.left

pub line_by_first-requires-clause-right : goal.line_by_first-requires-clause-right
line_by_first-requires-clause-right c = term_grown c.args.history.now c.args.work.now c.known_at.new.work c.args.right c.requires.stands c.known_at.ensures.grows c.requires.right

pub line_by_first-requires-clause-first : goal.line_by_first-requires-clause-first
line_by_first-requires-clause-first c = subst (λ o. IfSome o (LineStands c.known_at.new.work)) c.in-Some.is c.in_ok-first.ensures.line

pub returns-in-Some-clause-grows : goal.returns-in-Some-clause-grows
returns-in-Some-clause-grows c = WorkGrows-trans c.args.history.now c.args.work.now c.known_at.new.work c.line_by_first.new.work c.known_at.ensures.grows c.line_by_first.ensures.grows
