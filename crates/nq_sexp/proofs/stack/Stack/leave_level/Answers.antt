use Rattle.std.proofs.Common.{refl}
use Rattle.nq_sexp.proofs.Stacks.{left-is, popped-top}
use Rattle.nq_sexp.proofs.stack.Stack.leave_level.Goals as goal

pub returns-in-Some : goal.returns-in-Some
returns-in-Some c = left-is _ _ _ _ _ (popped-top c.args.self.now.frames.items c.pop.new.self.items c.pop.result c.in-Some.frame c.pop.ensures.items c.in-Some.is) refl
