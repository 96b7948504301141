use Rattle.std.proofs.Common.{◌∙◌, ap, sym}
use Rattle.std.specs.Prelude.{is_some}
use Rattle.nq_proof.proofs.Tests.{some_same}
use Rattle.nq_part_lines.proofs.PartPairLemmas.{no_number, variable_name}
use Rattle.nq_part_lines.proofs.wholes.pair_of.Goals as goal

pub argument_at-t-requires-clause-place : goal.argument_at-t-requires-clause-place
argument_at-t-requires-clause-place c = ap is_some c.requires.variable

pub returns-clause-stands : goal.returns-clause-stands
returns-clause-stands c = record { variable = c.in-Var.ensures.head.0; term = c.requires.term }

pub returns-clause-variable : goal.returns-clause-variable
returns-clause-variable c = variable_name _ _ (sym c.in-Var.ensures.head.1 ∙ some_same _ _ (sym c.argument_at-t.ensures.argument ∙ c.requires.variable))

pub unreachable-requires-in-Num : goal.unreachable-requires-in-Num
unreachable-requires-in-Num c = no_number _ _ (sym c.in-Num.ensures.head.1 ∙ some_same _ _ (sym c.argument_at-t.ensures.argument ∙ c.requires.variable))
