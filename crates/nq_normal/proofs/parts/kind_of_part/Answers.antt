use Rattle.std.proofs.Common.{sym, ap, ◌∙◌}
use Rattle.nq_goals.specs.Normal.{kind_of_part}
use Rattle.nq_normal.proofs.PartLemmas.{kind_numeral}
use Rattle.nq_normal.proofs.parts.kind_of_part.Goals as goal

pub returns-in-Num-clause-is : goal.returns-in-Num-clause-is
returns-in-Num-clause-is c = sym (ap kind_of_part c.in-Num.ensures.head.1 ∙ kind_numeral c.in-Num.field-0)
