use Rattle.std.proofs.Common.{refl}
use Rattle.nq_simplify.proofs.LeavingLemmas.{left_is}
use Rattle.nq_simplify.proofs.leaving.leave.Goals as goal

pub returns-in-Ok-only-clause-simplified : goal.returns-in-Ok-only-clause-simplified
returns-in-Ok-only-clause-simplified c = left_is c.args.history.now c.args.work.now c.args.basis.now c.args.goal.now c.in-Ok.kept _ c.requires.basis c.requires.goal c.in-Ok.ensures refl c.in-Ok-only.ensures
