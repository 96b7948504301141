-- The search stays possible, and the work grows.
use Rattle.nq_kernel.specs.Growing.{WorkGrows}
use Rattle.nq_search.specs.Goals.{CanSearch}
use Rattle.nq_tactic.proofs.falls.learn_goals.Given as goal

abbrev pub invariant-loop-goal : goal.invariant-loop-goal
invariant-loop-goal l = record { grows : WorkGrows l.fn.history l.fn.work l.work; can : CanSearch l.fn.history l.fn.hints l.work }
