use Rattle.std.proofs.Common.{◌∙◌, sym}
use Rattle.nq_part_lines.proofs.PartPairLemmas.{no_number}
use Rattle.nq_part_lines.proofs.defaulted.pair_with.Goals as goal

pub returns-clause-stands : goal.returns-clause-stands
returns-clause-stands c = record { variable = c.in-Var.ensures.head.0; term = c.requires.term }

pub returns-clause-variable : goal.returns-clause-variable
returns-clause-variable c = sym c.in-Var.ensures.head.1

pub unreachable-requires-in-Num : goal.unreachable-requires-in-Num
unreachable-requires-in-Num c = no_number _ _ (sym c.in-Num.ensures.head.1 ∙ c.requires.is.1)
