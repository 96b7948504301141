use Rattle.std.proofs.Common.{List, sym, ap, ◌∙◌, slice_get, refl}
use Rattle.nq_form.specs.Form.{listed, dotted}
use Rattle.nq_form.specs.Machine.{Stack as StackPart, give}
use Rattle.nq_sexp.specs.declared.Sexp.{Sexp}
use Rattle.nq_sexp.specs.Stacks.{stack_of, frame_of, frames_of}
use Rattle.nq_sexp.specs.Tree.{tree, trees}
use Rattle.nq_sexp.proofs.Stacks.{frames-some, tail-missing, tail-closed}
use Rattle.nq_sexp.proofs.stack.Stack.close_tail.Goals as goal

pub returns-in-None : goal.returns-in-None
returns-in-None c =
    tail-missing (frames_of c.args.self.now.frames.items) c.args.self.now.forms.items (frame_of c.args.dot) c.args.self.now.depth c.args.place
    (λ e. frames-some c.args.self.now.frames.items _ (sym c.is_empty.ensures ∙ c.if-is_empty.false) c.args.self.now.frames.ok.0 e)
    (c.in-None.ensures.value ∙ ap (λ (z : List Sexp). slice_get z 0) c.deref.ensures.value)

pub returns : goal.returns
returns c =
    let tail = c.in-Some.tail.now in
    let form = tree c.in_ok-form-in-Some.form in
    tail-closed (stack_of c.args.self.now) (frame_of c.args.dot) c.args.self.now.forms.items c.args.dot.forms.items tail form (stack_of c.give.new.self) c.args.place
    (λ e. frames-some c.args.self.now.frames.items _ (sym c.is_empty.ensures ∙ c.if-is_empty.false) c.args.self.now.frames.ok.0 e)
    (c.in-Some.ensures.value ∙ ap (λ (z : List Sexp). slice_get z 0) c.deref.ensures.value) refl
    (c.in_ok-form-in-Some.ensures ∙ ap (λ (z : List Sexp). listed (trees z (dotted (tree tail)))) c.deref-in-Some.ensures.value)
    (c.in_ok-give-in-Some.ensures ∙ ap (λ (z : StackPart). give z form) c.leave_level.ensures)
