use Rattle.nq_kernel.proofs.GrowingLemmas.{WorkGrows-refl}
use Rattle.nq_elim.proofs.equating.equation_of_variable.Goals as goal

pub returns-else-has_variable-clause-grows : goal.returns-else-has_variable-clause-grows
returns-else-has_variable-clause-grows c = WorkGrows-refl c.args.history.now c.args.work.now c.requires.stands
