use Rattle.std.proofs.Common.{ap, sym, ◌∙◌}
use Rattle.nq_goals.specs.Equations.{equation_of}
use Rattle.nq_moves.proofs.EquationLemmas.{equation_of-numeral}
use Rattle.nq_moves.proofs.equations.sides_of.Goals as goal

pub returns-in-Num-clause-sides : goal.returns-in-Num-clause-sides
returns-in-Num-clause-sides c = sym (ap equation_of c.in-Num.ensures.head.1 ∙ equation_of-numeral c.in-Num.field-0)
