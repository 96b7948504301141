use Rattle.std.proofs.Common.{ap, ◌∙◌}
use Rattle.std.specs.Prelude.{codes}
use Rattle.nq_logic.specs.Terms.{Function, Applied}
use Rattle.nq_proof.specs.Linear.{expression_of}
use Rattle.nq_linear_rule.specs.Shapes.{is_linear}
use Rattle.nq_linear_rule.specs.Faults.{literal_fault}
use Rattle.nq_linear_rule.proofs.ShapeLemmas.{denied-numeral, denied-kind-numeral, denied-fault-numeral}
use Rattle.nq_linear_rule.proofs.shape.denied_relation.Goals as goal

pub returns-in-Num-clause-expression : goal.returns-in-Num-clause-expression
returns-in-Num-clause-expression c = λ forwards. ap (λ u. expression_of forwards (Applied (Function (codes "NOT")) u)) c.in-Num.ensures.head.1 ∙ denied-numeral forwards c.in-Num.field-0

pub returns-in-Num-clause-kind : goal.returns-in-Num-clause-kind
returns-in-Num-clause-kind c = ap (λ u. is_linear (Applied (Function (codes "NOT")) u)) c.in-Num.ensures.head.1 ∙ denied-kind-numeral c.in-Num.field-0

pub returns-in-Num-clause-fault : goal.returns-in-Num-clause-fault
returns-in-Num-clause-fault c = ap (λ u. literal_fault (Applied (Function (codes "NOT")) u)) c.in-Num.ensures.head.1 ∙ denied-fault-numeral c.in-Num.field-0
