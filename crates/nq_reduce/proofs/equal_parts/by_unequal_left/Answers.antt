use Rattle.nq_kernel.proofs.GrowingLemmas.{WorkGrows-refl}
use Rattle.nq_reduce.proofs.equal_parts.by_unequal_left.Goals as goal

pub by_unequal_terms-requires-clause-right : goal.by_unequal_terms-requires-clause-right
by_unequal_terms-requires-clause-right c = c.in-Some.ensures.argument

pub returns-in-None-clause-grows : goal.returns-in-None-clause-grows
returns-in-None-clause-grows c = WorkGrows-refl c.args.history.now c.args.work.now c.requires.can.stands
