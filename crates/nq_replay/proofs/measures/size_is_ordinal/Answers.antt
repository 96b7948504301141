use Rattle.std.specs.Prelude.{is_some, []}
use Rattle.std.proofs.Common.{ap}
use Rattle.nq_replay.specs.LawClauses.{size_is_ordinal_clause}
use Rattle.nq_replay.proofs.LawLemmas.{by_table}
use Rattle.nq_replay.proofs.measures.size_is_ordinal.Goals as goal

pub replay-requires-clause-law : goal.replay-requires-clause-law
replay-requires-clause-law c = ap is_some c.size_is_ordinal_law-law.ensures

pub returns-clause-line : goal.returns-clause-line
returns-clause-line c = by_table c.replay.new.work c.replay.result c.size_is_ordinal_law-law.result [] size_is_ordinal_clause c.size_is_ordinal_law-law.ensures c.replay.ensures.line
