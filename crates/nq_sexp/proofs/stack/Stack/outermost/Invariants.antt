use Rattle.std.proofs.Common.{◌≡◌, drop}
use Rattle.nq_sexp.proofs.Stacks.{list_in}
use Rattle.nq_sexp.proofs.stack.Stack.outermost.Given as goal

abbrev pub invariant-loop-frame : goal.invariant-loop-frame
invariant-loop-frame l = list_in l.self.frames.items ≡ list_in (drop l.frame-index l.self.frames.items)
