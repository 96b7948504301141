use Rattle.nq_kernel.proofs.GrowingLemmas.{WorkGrows-refl}
use Rattle.nq_tactic.proofs.numbers.number_called.Goals as goal

pub returns-else-makes_numbers-clause-grows : goal.returns-else-makes_numbers-clause-grows
returns-else-makes_numbers-clause-grows c = WorkGrows-refl c.args.history.now c.args.work.now c.requires.stands
