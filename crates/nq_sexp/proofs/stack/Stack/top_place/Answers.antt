use Rattle.std.proofs.Common.{◌-◌, List, [], length, ap, sym, ◌∙◌, slice_get}
use Rattle.nq_form.specs.Machine.{Frame as FramePart, top_place}
use Rattle.nq_sexp.specs.declared.stack.Frame.{Frame}
use Rattle.nq_sexp.proofs.Stacks.{last-top}
use Rattle.nq_sexp.proofs.stack.Stack.top_place.Goals as goal

pub returns-in-Some : goal.returns-in-Some
returns-in-Some c =
    let t = last-top [] c.args.self.now.frames.items c.in-Some.frame.now (c.in-Some.ensures.value ∙ ap (λ (z : List Frame). slice_get z (length z - 1)) c.deref.ensures.value) in
    sym (ap (λ (z : List FramePart). top_place z) t.1)
