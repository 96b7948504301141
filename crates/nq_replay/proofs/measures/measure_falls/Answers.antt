use Rattle.std.specs.Prelude.{is_some, []}
use Rattle.std.proofs.Common.{ap}
use Rattle.nq_replay.specs.LawClauses.{measure_falls_clause}
use Rattle.nq_replay.proofs.LawLemmas.{by_table}
use Rattle.nq_replay.proofs.measures.measure_falls.Goals as goal

pub replay-requires-clause-law : goal.replay-requires-clause-law
replay-requires-clause-law c = ap is_some c.measure_falls_law-law.ensures

pub returns-clause-line : goal.returns-clause-line
returns-clause-line c = by_table c.replay.new.work c.replay.result c.measure_falls_law-law.result [] measure_falls_clause c.measure_falls_law-law.ensures c.replay.ensures.line
