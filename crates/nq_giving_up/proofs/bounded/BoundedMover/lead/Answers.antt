use Rattle.nq_kernel.proofs.GrowingLemmas.{WorkGrows-refl}
use Rattle.nq_giving_up.proofs.bounded.BoundedMover.lead.Goals as goal

pub returns-then-used-bound_below-clause-grows : goal.returns-then-used-bound_below-clause-grows
returns-then-used-bound_below-clause-grows g c = WorkGrows-refl c.args.history.now c.args.work.now c.requires.ready.stands
