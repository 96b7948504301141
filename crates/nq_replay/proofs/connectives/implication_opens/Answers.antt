use Rattle.std.specs.Prelude.{is_some, []}
use Rattle.std.proofs.Common.{ap}
use Rattle.nq_replay.specs.LawClauses.{implication_opens_clause}
use Rattle.nq_replay.proofs.LawLemmas.{by_table}
use Rattle.nq_replay.proofs.connectives.implication_opens.Goals as goal

pub replay-requires-clause-law : goal.replay-requires-clause-law
replay-requires-clause-law c = ap is_some c.implication_opens_law-law.ensures

pub returns-clause-line : goal.returns-clause-line
returns-clause-line c = by_table c.replay.new.work c.replay.result c.implication_opens_law-law.result [] implication_opens_clause c.implication_opens_law-law.ensures c.replay.ensures.line
