use Rattle.std.proofs.Common.{◌-◌, List, [], length, refl, ap, ◌∙◌, slice_get}
use Rattle.nq_sexp.specs.Stacks.{frame_of}
use Rattle.nq_sexp.specs.declared.stack.Frame.{Frame}
use Rattle.nq_sexp.proofs.Stacks.{last-top}
use Rattle.nq_sexp.proofs.stack.Stack.top.Goals as goal

pub returns-in-Some : goal.returns-in-Some
returns-in-Some c =
    let t = last-top [] c.args.self.now.frames.items c.in-Some.frame.now (c.in-Some.ensures.value ∙ ap (λ (z : List Frame). slice_get z (length z - 1)) c.deref.ensures.value) in
    (frame_of c.in-Some.frame.now, t.0, t.1, refl)
