use Rattle.std.specs.Prelude.{is_some}
use Rattle.std.proofs.Common.{ap, ◌∙◌}
use Rattle.nq_rule.proofs.Made.{for_ok}
use Rattle.nq_kernel.specs.Growing.{LineStands}
use Rattle.nq_division_laws.specs.LawClauses.{difference_falls_clause, difference_keeps_less_clause}
use Rattle.nq_division_laws.proofs.LawLemmas.{two_stand, two_some}
use Rattle.nq_division_laws.proofs.lines.line_after.Goals as goal

pub replay-requires-clause-known : goal.replay-requires-clause-known
replay-requires-clause-known c = two_stand c.args.work.now c.args.falls c.args.keeps difference_falls_clause difference_keeps_less_clause c.requires.falls c.requires.keeps

pub replay-requires-clause-law : goal.replay-requires-clause-law
replay-requires-clause-law c = two_some c.args.work.now c.args.falls c.args.keeps c.division_table-table.result difference_falls_clause difference_keeps_less_clause c.requires.falls c.requires.keeps c.division_table-table.ensures

pub returns-clause-line : goal.returns-clause-line
returns-clause-line c = for_ok c.replay.result _ (LineStands c.replay.new.work) (λ n is. ap is_some is ∙ two_some c.args.work.now c.args.falls c.args.keeps c.division_table-table.result difference_falls_clause difference_keeps_less_clause c.requires.falls c.requires.keeps c.division_table-table.ensures) c.replay.ensures.line
