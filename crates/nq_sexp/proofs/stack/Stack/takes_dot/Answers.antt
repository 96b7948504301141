use Rattle.std.proofs.Common.{ap, subst, ◌∙◌}
use Rattle.std.specs.Prelude.{Option, not}
use Rattle.nq_sexp.specs.Stacks.{opened_of, frames_of, TopIs}
use Rattle.nq_sexp.specs.declared.stack.Opened.{Opened}
use Rattle.nq_sexp.proofs.Stacks.{list-takes_dot}
use Rattle.nq_sexp.proofs.stack.Stack.takes_dot.Goals as goal

pub returns-in-Some-List : goal.returns-in-Some-List
returns-in-Some-List c =
    let t = subst (λ (z : Option Opened). TopIs (frames_of c.args.self.now.frames.items) z) c.in-Some-List.is c.top.ensures in
    ap not c.is_empty.ensures ∙ list-takes_dot _ t.0 t.1 c.args.self.now.forms.items _ t.2 (t.3 ∙ ap opened_of c.in-Some-List.field-0-is) c.args.self.now.forms.ok.0
