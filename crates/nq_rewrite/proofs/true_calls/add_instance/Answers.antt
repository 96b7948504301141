use Rattle.nq_rule.proofs.Made.{for_ok}
use Rattle.nq_kernel.specs.Growing.{LineStands}
use Rattle.nq_kernel.proofs.HeldLines.{holds_stands}
use Rattle.nq_rewrite.proofs.true_calls.add_instance.Goals as goal

pub find_instance-requires-clause-over : goal.find_instance-requires-clause-over
find_instance-requires-clause-over c = record { terms = c.requires.pairs.terms; names = c.requires.pairs.names }

pub returns-clause-line : goal.returns-clause-line
returns-clause-line c = for_ok c.find_instance.result _ (LineStands c.find_instance.new.self) (λ n holds. holds_stands c.find_instance.new.self n _ holds) c.find_instance.ensures.line
