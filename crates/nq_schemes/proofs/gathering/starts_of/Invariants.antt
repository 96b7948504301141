-- The steps so far, and the literals.
use Rattle.std.specs.Prelude.{All}
use Rattle.nq_kernel.specs.Growing.{WorkGrows}
use Rattle.nq_lines.specs.Lines.{IsTermIn}
use Rattle.nq_schemes.specs.Steps.{IsStartIn}
use Rattle.nq_schemes.proofs.gathering.starts_of.Given as goal

abbrev pub invariant-loop-step : goal.invariant-loop-step
invariant-loop-step l =
    record {
      grows : WorkGrows l.history l.fn.work l.work;
      starts : All (IsStartIn l.history l.work) l.starts.items;
      literals : All (IsTermIn l.history l.work) l.literals.items;
    }
