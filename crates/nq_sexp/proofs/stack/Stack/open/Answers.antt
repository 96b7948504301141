use Rattle.std.proofs.Common.{◌≡◌, List, [], ◌∷◌, ap, ◌∙◌}
use Rattle.nq_form.specs.Form.{end}
use Rattle.nq_sexp.specs.declared.Sexp.{Sexp}
use Rattle.nq_sexp.specs.Tree.{trees}
use Rattle.nq_sexp.specs.Stacks.{opened_of, frames_of, stack_of}
use Rattle.nq_sexp.proofs.Stacks.{pushed-top, opened-is}
use Rattle.nq_sexp.proofs.stack.Stack.open.Goals as goal

pub returns : goal.returns
returns c =
    let k = stack_of c.args.self.now in
    let before : c.replace-forms.result.items ≡ c.args.self.now.forms.items = cc in
    let none : c.replace-forms.new.dest.items ≡ [] = cc in
    let grown = pushed-top c.args.self.now.frames.items c.push.new.self.items _ c.in_ok-push.ensures.items in
    opened-is (opened_of c.args.opened) c.args.place c.args.depth k (frames_of c.push.new.self.items) (trees c.replace-forms.new.dest.items end)
    (grown ∙ ap (λ (z : List Sexp). record { opened = opened_of c.args.opened; forms = trees z end; place = c.args.place } ∷ k.frames) before) (ap (λ (z : List Sexp). trees z end) none)
