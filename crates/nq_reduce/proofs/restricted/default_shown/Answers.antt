use Rattle.nq_kernel.proofs.GrowingLemmas.{WorkGrows-refl}
use Rattle.nq_reduce.proofs.RewritingLemmas.{can_term}
use Rattle.nq_reduce.proofs.restricted.default_shown.Goals as goal

pub default_by_object-requires-clause-can : goal.default_by_object-requires-clause-can
default_by_object-requires-clause-can c = (can_term c.args.history.now c.args.work.now c.args.assumed.now c.args.t c.args.e c.requires.can c.requires.equation)

pub default_by_object-requires-clause-object : goal.default_by_object-requires-clause-object
default_by_object-requires-clause-object c = c.in-Some.ensures.argument

pub returns-in-None-clause-grows : goal.returns-in-None-clause-grows
returns-in-None-clause-grows c = WorkGrows-refl c.args.history.now c.args.work.now c.requires.can.stands
