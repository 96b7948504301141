-- The terms that are made so far are in.
use Rattle.std.specs.Prelude.{All}
use Rattle.nq_kernel.specs.Growing.{WorkGrows}
use Rattle.nq_lines.specs.Lines.{IsTermIn}
use Rattle.nq_arithmetic.proofs.making.make_term.Given as goal

abbrev pub invariant-loop-step : goal.invariant-loop-step
invariant-loop-step l = record { grows : WorkGrows l.fn.history l.fn.work l.work; terms : All (IsTermIn l.history l.work) l.terms.items; last : IsTermIn l.history l.work l.last }
