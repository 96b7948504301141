-- A line that was found has only the goal's literals.
use Rattle.std.specs.Prelude.{IfSome}
use Rattle.nq_bank.specs.Content.{terms_at}
use Rattle.nq_kernel.specs.Growing.{WorkGrows}
use Rattle.nq_lines.specs.Lines.{LineHasOnly}
use Rattle.nq_arithmetic.proofs.arithmetic.by_equations.Given as goal

abbrev pub invariant-loop-t : goal.invariant-loop-t
invariant-loop-t l = record { grows : WorkGrows l.fn.history l.fn.work l.work; found : IfSome l.found (λ n. LineHasOnly l.work n (terms_at l.fn.work.bank l.goal)) }
