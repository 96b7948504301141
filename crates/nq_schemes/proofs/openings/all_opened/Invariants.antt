-- The calls so far.
use Rattle.std.specs.Prelude.{All}
use Rattle.nq_kernel.specs.Growing.{WorkGrows}
use Rattle.nq_schemes.specs.Known.{IsOpenedIn}
use Rattle.nq_schemes.proofs.openings.all_opened.Given as goal

abbrev pub invariant-loop-call : goal.invariant-loop-call
invariant-loop-call l = record { grows : WorkGrows l.history l.fn.work l.work; opened : All (IsOpenedIn l.history l.work) l.opened.items }
