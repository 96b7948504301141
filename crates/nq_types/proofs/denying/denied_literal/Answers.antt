use Rattle.nq_kernel.proofs.GrowingLemmas.{WorkGrows-refl}
use Rattle.nq_types.proofs.denying.denied_literal.Goals as goal

pub returns-in-Unrecognized-clause-grows : goal.returns-in-Unrecognized-clause-grows
returns-in-Unrecognized-clause-grows c = WorkGrows-refl c.args.history.now c.args.work.now c.requires.stands
