use Rattle.nq_kernel.proofs.GrowingLemmas.{LineHolds-grown}
use Rattle.nq_replay.proofs.UncountedLemmas.{grown_trans}
use Rattle.nq_replay.specs.LawClauses.{less_is_transitive_clause}
use Rattle.nq_division_laws.specs.LawClauses.{difference_falls_clause, difference_is_less_clause}
use Rattle.nq_division_laws.proofs.lines.line_from.Goals as goal

pub difference_keeps_less-requires-clause-first : goal.difference_keeps_less-requires-clause-first
difference_keeps_less-requires-clause-first c = LineHolds-grown c.args.history.now c.args.work.now c.difference_falls.new.work c.args.less difference_is_less_clause c.requires.stands c.difference_falls.ensures.grows.grows c.requires.less

pub difference_keeps_less-requires-clause-second : goal.difference_keeps_less-requires-clause-second
difference_keeps_less-requires-clause-second c = LineHolds-grown c.args.history.now c.args.work.now c.difference_falls.new.work c.args.chain less_is_transitive_clause c.requires.stands c.difference_falls.ensures.grows.grows c.requires.chain

pub returns-in_err-keeps-clause-grows : goal.returns-in_err-keeps-clause-grows
returns-in_err-keeps-clause-grows c = grown_trans c.args.history.now c.args.work.now c.difference_falls.new.work c.difference_keeps_less.new.work c.difference_falls.ensures.grows c.difference_keeps_less.ensures.grows

pub line_after-requires-clause-falls : goal.line_after-requires-clause-falls
line_after-requires-clause-falls c = LineHolds-grown c.args.history.now c.difference_falls.new.work c.difference_keeps_less.new.work c.in_ok-difference.difference difference_falls_clause c.difference_falls.ensures.grows.grows.stands c.difference_keeps_less.ensures.grows.grows c.in_ok-difference.ensures.line

pub returns-clause-grows : goal.returns-clause-grows
returns-clause-grows c = grown_trans c.args.history.now c.args.work.now c.difference_falls.new.work c.line_after.new.work c.difference_falls.ensures.grows (grown_trans c.args.history.now c.difference_falls.new.work c.difference_keeps_less.new.work c.line_after.new.work c.difference_keeps_less.ensures.grows c.line_after.ensures.grows)
