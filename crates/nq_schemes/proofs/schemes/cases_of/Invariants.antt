-- The cases so far.
use Rattle.std.specs.Prelude.{All}
use Rattle.nq_kernel.specs.Growing.{WorkGrows}
use Rattle.nq_induct.specs.Schemes.{IsCaseIn}
use Rattle.nq_schemes.proofs.schemes.cases_of.Given as goal

abbrev pub invariant-loop-case : goal.invariant-loop-case
invariant-loop-case l = record { grows : WorkGrows l.history l.fn.work l.work; cases : All (IsCaseIn l.history l.work l.basis.measure) l.made.items }
