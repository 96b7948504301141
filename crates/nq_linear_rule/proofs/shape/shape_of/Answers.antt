use Rattle.std.proofs.Common.{ap, ◌∙◌}
use Rattle.nq_proof.specs.Linear.{form_of}
use Rattle.nq_linear_rule.specs.Faults.{form_fault}
use Rattle.nq_linear_rule.proofs.ShapeLemmas.{form_of-numeral, fault-numeral}
use Rattle.nq_linear_rule.proofs.shape.shape_of.Goals as goal

pub returns-in-Num-clause-form : goal.returns-in-Num-clause-form
returns-in-Num-clause-form c = ap form_of c.in-Num.ensures.head.1 ∙ form_of-numeral c.in-Num.n c.in-Num.ensures.head.0

pub returns-in-Num-clause-fault : goal.returns-in-Num-clause-fault
returns-in-Num-clause-fault c = ap form_fault c.in-Num.ensures.head.1 ∙ fault-numeral c.in-Num.n c.in-Num.ensures.head.0
