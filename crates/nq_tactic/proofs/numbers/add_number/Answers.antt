use Rattle.nq_kernel.proofs.GrowingLemmas.{WorkGrows-refl}
use Rattle.nq_tactic.proofs.numbers.add_number.Goals as goal

pub returns-else-len-lt-NUMBER_LIMIT-clause-grows : goal.returns-else-len-lt-NUMBER_LIMIT-clause-grows
returns-else-len-lt-NUMBER_LIMIT-clause-grows c = WorkGrows-refl c.args.history.now c.args.work.now c.requires.stands
