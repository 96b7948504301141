use Rattle.std.specs.Prelude.{is_some, []}
use Rattle.std.proofs.Common.{ap}
use Rattle.nq_shell_parts.specs.LawClauses.{truth_is_truth_clause}
use Rattle.nq_replay.proofs.LawLemmas.{by_table}
use Rattle.nq_shell_parts.proofs.restrictions.truth_is_truth.Goals as goal

pub replay-requires-clause-law : goal.replay-requires-clause-law
replay-requires-clause-law c = ap is_some c.truth_is_truth_law-law.ensures

pub returns-clause-line : goal.returns-clause-line
returns-clause-line c = by_table c.replay.new.work c.replay.result c.truth_is_truth_law-law.result [] truth_is_truth_clause c.truth_is_truth_law-law.ensures c.replay.ensures.line
