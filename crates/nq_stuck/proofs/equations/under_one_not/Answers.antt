use Rattle.std.proofs.Common.{ap, sym, ◌∙◌}
use Rattle.nq_proof.specs.Paths.{under_not}
use Rattle.nq_rule.proofs.LiteralLemmas.{under_not-numeral}
use Rattle.nq_stuck.proofs.equations.under_one_not.Goals as goal

pub returns-in-Num-clause-argument : goal.returns-in-Num-clause-argument
returns-in-Num-clause-argument c = sym (ap under_not c.in-Num.ensures.head.1 ∙ under_not-numeral c.in-Num.field-0)
