use Rattle.nq_kernel.proofs.GrowingLemmas.{WorkGrows-trans}
use Rattle.nq_lines.proofs.LineLemmas.{line_grown}
use Rattle.nq_lines.proofs.TermLemmas.{term_grown}
use Rattle.nq_tactic.proofs.told_truths.line_by_both.Goals as goal

pub meet-requires-clause-left : goal.meet-requires-clause-left
meet-requires-clause-left c = term_grown c.args.history.now c.args.work.now c.truth.new.work c.args.left c.requires.stands c.truth.ensures.grows c.requires.left

pub meet-requires-clause-right : goal.meet-requires-clause-right
meet-requires-clause-right c = term_grown c.args.history.now c.args.work.now c.truth.new.work c.args.right c.requires.stands c.truth.ensures.grows c.requires.right

pub meet-requires-clause-first : goal.meet-requires-clause-first
meet-requires-clause-first c = line_grown c.args.history.now c.args.work.now c.truth.new.work c.args.first c.requires.stands c.truth.ensures.grows c.requires.first

pub meet-requires-clause-second : goal.meet-requires-clause-second
meet-requires-clause-second c = line_grown c.args.history.now c.args.work.now c.truth.new.work c.args.second c.requires.stands c.truth.ensures.grows c.requires.second

pub returns-in_err-line-clause-grows : goal.returns-in_err-line-clause-grows
returns-in_err-line-clause-grows c = WorkGrows-trans c.args.history.now c.args.work.now c.truth.new.work c.meet.new.work c.truth.ensures.grows c.meet.ensures.grows

pub returns-clause-grows : goal.returns-clause-grows
returns-clause-grows c = WorkGrows-trans c.args.history.now c.args.work.now c.truth.new.work c.meet.new.work c.truth.ensures.grows c.meet.ensures.grows
