-- The numbers that are left decide.
use Rattle.std.proofs.Common.{◌≡◌, drop}
use Rattle.nq_log.specs.States.{have_lines}
use Rattle.nq_check.specs.Contexts.{state_of}
use Rattle.nq_check.proofs.context.Context.have_lines.Given as goal

abbrev pub invariant-loop-line : goal.invariant-loop-line
invariant-loop-line l = have_lines (state_of l.self).block l.lines ≡ have_lines (state_of l.self).block (drop l.line-index l.lines)
