use Rattle.std.specs.Prelude.{is_some}
use Rattle.std.proofs.Common.{ap, ◌∙◌}
use Rattle.nq_rule.proofs.Made.{for_ok}
use Rattle.nq_kernel.specs.Growing.{LineStands}
use Rattle.nq_replay.specs.LawClauses.{size_falls_clause}
use Rattle.nq_replay.proofs.LawLemmas.{known_stands}
use Rattle.nq_number_laws.proofs.LawLemmas.{law_known}
use Rattle.nq_number_laws.proofs.lines.inductive_line_after.Goals as goal

pub replay-requires-clause-known : goal.replay-requires-clause-known
replay-requires-clause-known c = known_stands c.args.work.now c.args.falls size_falls_clause c.requires.falls

pub replay-requires-clause-law : goal.replay-requires-clause-law
replay-requires-clause-law c = law_known c.args.work.now c.args.falls c.inductive_table-table.result size_falls_clause c.requires.falls c.inductive_table-table.ensures

pub returns-clause-line : goal.returns-clause-line
returns-clause-line c = for_ok c.replay.result _ (LineStands c.replay.new.work) (λ n is. ap is_some is ∙ law_known c.args.work.now c.args.falls c.inductive_table-table.result size_falls_clause c.requires.falls c.inductive_table-table.ensures) c.replay.ensures.line
