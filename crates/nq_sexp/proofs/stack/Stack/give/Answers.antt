use Rattle.std.proofs.Common.{sym, ap, ◌∙◌, List}
use Rattle.nq_form.specs.Form.{end}
use Rattle.nq_sexp.specs.declared.Sexp.{Sexp}
use Rattle.nq_sexp.specs.Stacks.{stack_of}
use Rattle.nq_sexp.specs.Tree.{tree, trees}
use Rattle.nq_sexp.proofs.Stacks.{left-shorter, given-is, trees-last}
use Rattle.nq_sexp.proofs.stack.Stack.give.Goals as goal

pub loop-form-smaller : goal.loop-form-smaller
loop-form-smaller c = left-shorter (stack_of c.loop-form.self) (stack_of c.leave_level.new.self) (sym c.is_marked.ensures ∙ c.loop-form-test.true) c.leave_level.ensures

pub returns : goal.returns
returns c =
    given-is (stack_of c.loop-form.self) (tree c.loop-form.form) (trees c.push.new.self.items end) (sym c.is_marked.ensures ∙ c.loop-form-test.false) (ap (λ (z : List Sexp). trees z end) c.in_ok-push.ensures.items ∙ trees-last _ _)
    ∙ c.loop-form.invariant.0
