use Rattle.std.specs.Prelude.{is_some, []}
use Rattle.std.proofs.Common.{ap}
use Rattle.nq_shell_parts.specs.LawClauses.{base_is_smaller_clause}
use Rattle.nq_replay.proofs.LawLemmas.{by_table}
use Rattle.nq_shell_parts.proofs.summands.base_is_smaller.Goals as goal

pub replay-requires-clause-law : goal.replay-requires-clause-law
replay-requires-clause-law c = ap is_some c.base_is_smaller_law-law.ensures

pub returns-clause-line : goal.returns-clause-line
returns-clause-line c = by_table c.replay.new.work c.replay.result c.base_is_smaller_law-law.result [] base_is_smaller_clause c.base_is_smaller_law-law.ensures c.replay.ensures.line
