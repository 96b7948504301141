-- The goals so far.
use Rattle.nq_kernel.specs.Growing.{WorkGrows}
use Rattle.nq_schemes.specs.Owed.{AreGoalsIn}
use Rattle.nq_schemes.proofs.owed.owed_by.Given as goal

abbrev pub invariant-loop-case : goal.invariant-loop-case
invariant-loop-case l = record { grows : WorkGrows l.history l.fn.work l.work; owed : AreGoalsIn l.history l.work l.goals.items }
