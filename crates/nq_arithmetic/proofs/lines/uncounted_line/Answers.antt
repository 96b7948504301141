use Rattle.nq_rule.proofs.Made.{for_ok}
use Rattle.nq_kernel.specs.Growing.{LineStands}
use Rattle.nq_kernel.proofs.HeldLines.{holds_stands}
use Rattle.nq_arithmetic.proofs.lines.uncounted_line.Goals as goal

pub returns-in-FirstIsSmaller-clause-line : goal.returns-in-FirstIsSmaller-clause-line
returns-in-FirstIsSmaller-clause-line c = for_ok c.first_is_smaller.result _ (LineStands c.first_is_smaller.new.work) (λ n holds. holds_stands c.first_is_smaller.new.work n _ holds) c.first_is_smaller.ensures.line

pub returns-in-RestIsSmaller-clause-line : goal.returns-in-RestIsSmaller-clause-line
returns-in-RestIsSmaller-clause-line c = for_ok c.rest_is_smaller.result _ (LineStands c.rest_is_smaller.new.work) (λ n holds. holds_stands c.rest_is_smaller.new.work n _ holds) c.rest_is_smaller.ensures.line

pub returns-in-ImplicationOpens-clause-line : goal.returns-in-ImplicationOpens-clause-line
returns-in-ImplicationOpens-clause-line c = for_ok c.implication_opens.result _ (LineStands c.implication_opens.new.work) (λ n holds. holds_stands c.implication_opens.new.work n _ holds) c.implication_opens.ensures.line

pub returns-in-PairHolds-clause-line : goal.returns-in-PairHolds-clause-line
returns-in-PairHolds-clause-line c = for_ok c.pair_holds.result _ (LineStands c.pair_holds.new.work) (λ n holds. holds_stands c.pair_holds.new.work n _ holds) c.pair_holds.ensures.line
