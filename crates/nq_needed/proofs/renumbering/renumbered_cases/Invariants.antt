-- The cases so far.
use Rattle.std.proofs.Common.{take}
use Rattle.nq_needed.specs.Renumbering.{number_in, AreRenumberedCases}
use Rattle.nq_needed.proofs.renumbering.renumbered_cases.Given as goal

abbrev pub invariant-loop-case : goal.invariant-loop-case
invariant-loop-case l = AreRenumberedCases (number_in l.numbers) (take l.case-index l.cases) l.made.items
