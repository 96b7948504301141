use Rattle.std.specs.Prelude.{is_some}
use Rattle.std.proofs.Common.{ap, ◌∙◌}
use Rattle.nq_rule.proofs.Made.{for_ok}
use Rattle.nq_kernel.specs.Growing.{LineStands}
use Rattle.nq_types.proofs.numbers.kind_line.Goals as goal

pub returns-clause-line : goal.returns-clause-line
returns-clause-line c = for_ok c.replay.result _ (LineStands c.replay.new.work) (λ n is. ap is_some is ∙ c.kind_table-table.ensures) c.replay.ensures.line
