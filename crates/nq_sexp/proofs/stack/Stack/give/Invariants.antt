use Rattle.std.proofs.Common.{◌≡◌, ◌≤◌, length}
use Rattle.nq_form.specs.Machine.{give}
use Rattle.nq_sexp.specs.Stacks.{stack_of, levels_in}
use Rattle.nq_sexp.specs.Tree.{tree}
use Rattle.nq_sexp.proofs.stack.Stack.give.Given as goal

abbrev pub invariant-loop-form : goal.invariant-loop-form
invariant-loop-form l = (give (stack_of l.self) (tree l.form) ≡ give (stack_of l.fn.self) (tree l.fn.form)) × (levels_in (stack_of l.self) ≤ 501)

abbrev pub decreases-loop-form : goal.decreases-loop-form
decreases-loop-form l = length (stack_of l.self).frames
