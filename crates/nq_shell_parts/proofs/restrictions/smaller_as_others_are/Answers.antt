use Rattle.std.specs.Prelude.{is_some, []}
use Rattle.std.proofs.Common.{ap}
use Rattle.nq_shell_parts.specs.LawClauses.{smaller_as_others_are_clause}
use Rattle.nq_replay.proofs.LawLemmas.{by_table}
use Rattle.nq_shell_parts.proofs.restrictions.smaller_as_others_are.Goals as goal

pub replay-requires-clause-law : goal.replay-requires-clause-law
replay-requires-clause-law c = ap is_some c.smaller_as_others_are_law-law.ensures

pub returns-clause-line : goal.returns-clause-line
returns-clause-line c = by_table c.replay.new.work c.replay.result c.smaller_as_others_are_law-law.result [] smaller_as_others_are_clause c.smaller_as_others_are_law-law.ensures c.replay.ensures.line
