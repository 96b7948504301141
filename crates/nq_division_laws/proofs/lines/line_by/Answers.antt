use Rattle.nq_kernel.proofs.GrowingLemmas.{LineHolds-grown}
use Rattle.nq_replay.proofs.UncountedLemmas.{grown_trans}
use Rattle.nq_replay.specs.LawClauses.{less_is_transitive_clause, size_falls_clause}
use Rattle.nq_division_laws.proofs.lines.line_by.Goals as goal

pub line_from-requires-clause-falls : goal.line_from-requires-clause-falls
line_from-requires-clause-falls c = LineHolds-grown c.args.history.now c.args.work.now c.difference_is_less.new.work c.args.falls size_falls_clause c.requires.stands c.difference_is_less.ensures.grows.grows c.requires.falls

pub line_from-requires-clause-chain : goal.line_from-requires-clause-chain
line_from-requires-clause-chain c = LineHolds-grown c.args.history.now c.args.work.now c.difference_is_less.new.work c.args.chain less_is_transitive_clause c.requires.stands c.difference_is_less.ensures.grows.grows c.requires.chain

pub returns-clause-grows : goal.returns-clause-grows
returns-clause-grows c = grown_trans c.args.history.now c.args.work.now c.difference_is_less.new.work c.line_from.new.work c.difference_is_less.ensures.grows c.line_from.ensures.grows
