use Rattle.std.specs.Prelude.{is_some, []}
use Rattle.std.proofs.Common.{ap}
use Rattle.nq_shell_parts.specs.LawClauses.{neither_of_choice_clause}
use Rattle.nq_replay.proofs.LawLemmas.{by_table}
use Rattle.nq_shell_parts.proofs.restrictions.neither_of_choice.Goals as goal

pub replay-requires-clause-law : goal.replay-requires-clause-law
replay-requires-clause-law c = ap is_some c.neither_of_choice_law-law.ensures

pub returns-clause-line : goal.returns-clause-line
returns-clause-line c = by_table c.replay.new.work c.replay.result c.neither_of_choice_law-law.result [] neither_of_choice_clause c.neither_of_choice_law-law.ensures c.replay.ensures.line
