use Rattle.std.proofs.Common.{ap, subst, ◌∙◌}
use Rattle.std.specs.Prelude.{Option}
use Rattle.nq_sexp.specs.Stacks.{opened_of, frames_of, TopIs}
use Rattle.nq_sexp.specs.declared.stack.Opened.{Opened}
use Rattle.nq_sexp.proofs.Stacks.{dot-takes}
use Rattle.nq_sexp.proofs.stack.Stack.takes_form.Goals as goal

pub returns-in-Some-Dot : goal.returns-in-Some-Dot
returns-in-Some-Dot c =
    let t = subst (λ (z : Option Opened). TopIs (frames_of c.args.self.now.frames.items) z) c.in-Some-Dot.is c.top.ensures in
    c.is_empty.ensures ∙ dot-takes _ t.0 t.1 c.args.self.now.forms.items _ t.2 (t.3 ∙ ap opened_of c.in-Some-Dot.field-0-is) c.args.self.now.forms.ok.0
