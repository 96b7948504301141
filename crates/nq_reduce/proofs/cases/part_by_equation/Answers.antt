use Rattle.nq_kernel.proofs.GrowingLemmas.{WorkGrows-refl}
use Rattle.nq_reduce.proofs.cases.part_by_equation.Goals as goal

pub lost_kind-requires-clause-side : goal.lost_kind-requires-clause-side
lost_kind-requires-clause-side c = c.in-Some.ensures.argument

pub returns-in-None-clause-grows : goal.returns-in-None-clause-grows
returns-in-None-clause-grows c = WorkGrows-refl c.args.history.now c.args.work.now c.requires.can.stands
