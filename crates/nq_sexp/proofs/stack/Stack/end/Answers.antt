use Rattle.std.proofs.Common.{◌-◌, List, [], length, ap, sym, ◌∙◌, slice_get}
use Rattle.nq_sexp.specs.Stacks.{stack_of}
use Rattle.nq_sexp.specs.declared.stack.Frame.{Frame}
use Rattle.nq_sexp.proofs.Stacks.{last-top, end-marked}
use Rattle.nq_sexp.proofs.stack.Stack.end.Goals as goal

pub returns-in-Some-last : goal.returns-in-Some-last
returns-in-Some-last c =
    let t = last-top [] c.args.self.now.frames.items c.in-Some-last.frame.now (c.in-Some-last.ensures.value ∙ ap (λ (z : List Frame). slice_get z (length z - 1)) c.deref.ensures.value) in
    end-marked (stack_of c.args.self.now) _ t.0 (sym c.in-None.is ∙ c.outermost.ensures) t.1
