use Rattle.std.proofs.Common.{refl, sym, ◌∙◌}
use Rattle.nq_sexp.proofs.Stacks.{whole-some, frames-some}
use Rattle.nq_sexp.proofs.stack.Stack.take_whole.Goals as goal

pub returns-then-is_empty-clause-some : goal.returns-then-is_empty-clause-some
returns-then-is_empty-clause-some c =
    whole-some c.pop.result c.args.self.now.frames.items _ c.args.self.now.forms.items c.pop.new.self.items (sym c.is_empty.ensures ∙ c.if-is_empty.true) c.args.self.now.frames.ok.0 c.pop.ensures.items

pub returns-else-is_empty-clause-none : goal.returns-else-is_empty-clause-none
returns-else-is_empty-clause-none c = (refl, λ e. absurd (frames-some c.args.self.now.frames.items _ (sym c.is_empty.ensures ∙ c.if-is_empty.false) c.args.self.now.frames.ok.0 e))
