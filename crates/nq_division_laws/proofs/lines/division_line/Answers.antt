use Rattle.nq_kernel.proofs.GrowingLemmas.{LineHolds-grown}
use Rattle.nq_replay.proofs.UncountedLemmas.{grown_trans}
use Rattle.nq_replay.specs.LawClauses.{size_falls_clause}
use Rattle.nq_division_laws.proofs.lines.division_line.Goals as goal

pub returns-in_err-chain-clause-grows : goal.returns-in_err-chain-clause-grows
returns-in_err-chain-clause-grows c = grown_trans c.args.history.now c.args.work.now c.size_falls.new.work c.less_is_transitive.new.work c.size_falls.ensures.grows c.less_is_transitive.ensures.grows

pub line_by-requires-clause-falls : goal.line_by-requires-clause-falls
line_by-requires-clause-falls c = LineHolds-grown c.args.history.now c.size_falls.new.work c.less_is_transitive.new.work c.in_ok-falls.falls size_falls_clause c.size_falls.ensures.grows.grows.stands c.less_is_transitive.ensures.grows.grows c.in_ok-falls.ensures.line

pub returns-clause-grows : goal.returns-clause-grows
returns-clause-grows c = grown_trans c.args.history.now c.args.work.now c.size_falls.new.work c.line_by.new.work c.size_falls.ensures.grows (grown_trans c.args.history.now c.size_falls.new.work c.less_is_transitive.new.work c.line_by.new.work c.less_is_transitive.ensures.grows c.line_by.ensures.grows)
