use Rattle.std.proofs.Common.{refl}
use Rattle.nq_reduce.proofs.HeldLemmas.{shown_equation}
use Rattle.nq_reduce.proofs.held.by_equation.Goals as goal

pub returns-then-is_same : goal.returns-then-is_same
returns-then-is_same c = shown_equation c.args.history.now c.args.work.now c.args.assumed.now c.args.t c.args.fact c.args.sides c.requires.sides (c.if-is_same.ensures refl) c.requires.fact
