use Rattle.std.proofs.Common.{◌≤◌, ◌-◌, ◌^◌}
use Rattle.nq_sexp.specs.Stacks.{stack_of}
use Rattle.nq_sexp.specs.Modes.{mode_of}
use Rattle.nq_sexp.proofs.Parsing.{Parsing}
use Rattle.nq_sexp.proofs.reader.read_form.Given as goal

abbrev pub invariant-loop-next : goal.invariant-loop-next
invariant-loop-next g l = Parsing g.S.Source.left l.fn.input l.fn.source l.input l.source (stack_of l.stack) (mode_of l.mode) l.next × (g.S.Source.faults l.fn.source ≤ g.S.Source.faults l.source)

abbrev pub decreases-loop-next : goal.decreases-loop-next
decreases-loop-next g l = 2 ^ 25 - l.input.at
