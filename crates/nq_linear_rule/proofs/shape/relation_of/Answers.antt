use Rattle.std.proofs.Common.{ap, ◌∙◌}
use Rattle.nq_proof.specs.Linear.{expression_of}
use Rattle.nq_linear_rule.specs.Shapes.{is_linear}
use Rattle.nq_linear_rule.specs.Faults.{literal_fault}
use Rattle.nq_linear_rule.proofs.ShapeLemmas.{expression_of-numeral, kind-numeral, literal_fault-numeral}
use Rattle.nq_linear_rule.proofs.shape.relation_of.Goals as goal

pub returns-in-Num-clause-expression : goal.returns-in-Num-clause-expression
returns-in-Num-clause-expression c = λ forwards. ap (expression_of forwards) c.in-Num.ensures.head.1 ∙ expression_of-numeral forwards c.in-Num.field-0

pub returns-in-Num-clause-kind : goal.returns-in-Num-clause-kind
returns-in-Num-clause-kind c = ap is_linear c.in-Num.ensures.head.1 ∙ kind-numeral c.in-Num.field-0

pub returns-in-Num-clause-fault : goal.returns-in-Num-clause-fault
returns-in-Num-clause-fault c = ap literal_fault c.in-Num.ensures.head.1 ∙ literal_fault-numeral c.in-Num.field-0
