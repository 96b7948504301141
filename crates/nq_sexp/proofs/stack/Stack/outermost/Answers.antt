use Rattle.std.proofs.Common.{◌≡◌, ◌<◌, ◌≤◌, length, get_or, List, ap, ◌∙◌, subst}
use Rattle.nq_sexp.specs.declared.stack.Frame.{Frame}
use Rattle.nq_sexp.proofs.Stacks.{found-list, no-list}
use Rattle.nq_sexp.proofs.stack.Stack.outermost.Goals as goal

pub returns-then-is_list : goal.returns-then-is_list
returns-then-is_list c =
    let items = c.args.self.now.frames.items in
    let within : c.loop-frame.frame-index < length items = subst (λ (z : List Frame). c.loop-frame.frame-index < length z) c.deref-frame-items.ensures.value c.loop-frame-test.true in
    let here : c.frame-item.result ≡ get_or items c.loop-frame.frame-index c.frame-item.result = c.frame-item.is ∙ ap (λ (z : List Frame). get_or z c.loop-frame.frame-index c.frame-item.result) c.deref-frame-items.ensures.value in
    found-list items c.loop-frame.frame-index c.frame-item.result within here (c.is_list.ensures ∙ c.if-is_list.true) c.loop-frame.invariant

pub returns : goal.returns
returns c =
    let items = c.args.self.now.frames.items in
    let all : length items ≤ c.loop-frame.frame-index = subst (λ (z : List Frame). length z ≤ c.loop-frame.frame-index) c.deref-frame-items.ensures.value c.loop-frame-test.false in
    no-list items c.loop-frame.frame-index all c.loop-frame.invariant
