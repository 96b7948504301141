use Rattle.nq_rule.proofs.Made.{for_ok}
use Rattle.nq_kernel.specs.Growing.{LineStands}
use Rattle.nq_kernel.proofs.HeldLines.{holds_stands}
use Rattle.nq_schemes.proofs.ordinals.choice_is_ordinal.Goals as goal

pub returns-clause-line : goal.returns-clause-line
returns-clause-line c = for_ok c.measure_is_ordinal.result _ (LineStands c.measure_is_ordinal.new.work) (λ n holds. holds_stands c.measure_is_ordinal.new.work n _ holds) c.measure_is_ordinal.ensures.line
