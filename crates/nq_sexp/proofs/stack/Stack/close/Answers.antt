use Rattle.std.proofs.Common.{◌≡◌, List, ◌∷◌, sym, ap, subst, ◌∙◌, arith}
use Rattle.nq_form.specs.Machine.{Frame as FramePart, levels_of, outer}
use Rattle.std.specs.Prelude.{Option}
use Rattle.nq_sexp.specs.Stacks.{opened_of, stack_of, frame_of, frames_of, TopIs}
use Rattle.nq_sexp.specs.declared.stack.Opened.{Opened}
use Rattle.nq_sexp.proofs.Stacks.{popped-top, levels-under, close-dot_is, top-dot, leads-as}
use Rattle.nq_sexp.proofs.stack.Stack.close.Goals as goal

pub close_tail-requires : goal.close_tail-requires
close_tail-requires c =
    let top = popped-top c.args.self.now.frames.items c.pop.new.self.items c.pop.result c.in-Some.dot c.pop.ensures.items c.in-Some.is in
    let under = levels-under (frame_of c.in-Some.dot) (frames_of c.pop.new.self.items) in
    let same : levels_of (frames_of c.args.self.now.frames.items) ≡ levels_of (frame_of c.in-Some.dot ∷ frames_of c.pop.new.self.items) = ap levels_of top in
    omega (arith, under, same, c.requires)

pub returns-in-Some : goal.returns-in-Some
returns-in-Some c =
    let frames = frames_of c.args.self.now.frames.items in
    let fs = (stack_of c.args.self.now).forms in
    let f = frame_of c.in-Some.dot in
    let under = frames_of c.pop.new.self.items in
    let top = popped-top c.args.self.now.frames.items c.pop.new.self.items c.pop.result c.in-Some.dot c.pop.ensures.items c.in-Some.is in
    let t = subst (λ (z : Option Opened). TopIs frames z) c.in-Some-Dot.is c.top.ensures in
    let opened = top-dot frames t.0 f t.1 under t.2 (t.3 ∙ ap opened_of c.in-Some-Dot.field-0-is) top in
    leads-as _ _ _ _ _ _ (sym (close-dot_is frames f under fs c.args.self.now.depth c.args.place top opened)) (sym (ap (λ (z : List FramePart). outer z fs) top)) c.close_tail.ensures
