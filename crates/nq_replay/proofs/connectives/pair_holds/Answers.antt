use Rattle.std.specs.Prelude.{is_some, []}
use Rattle.std.proofs.Common.{ap}
use Rattle.nq_replay.specs.LawClauses.{pair_holds_clause}
use Rattle.nq_replay.proofs.LawLemmas.{by_table}
use Rattle.nq_replay.proofs.connectives.pair_holds.Goals as goal

pub replay-requires-clause-law : goal.replay-requires-clause-law
replay-requires-clause-law c = ap is_some c.pair_holds_law-law.ensures

pub returns-clause-line : goal.returns-clause-line
returns-clause-line c = by_table c.replay.new.work c.replay.result c.pair_holds_law-law.result [] pair_holds_clause c.pair_holds_law-law.ensures c.replay.ensures.line
