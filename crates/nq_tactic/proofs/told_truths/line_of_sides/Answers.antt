use Rattle.nq_kernel.proofs.GrowingLemmas.{WorkGrows-refl}
use Rattle.nq_tactic.proofs.told_truths.line_of_sides.Goals as goal

pub returns-else-are_denied-clause-grows : goal.returns-else-are_denied-clause-grows
returns-else-are_denied-clause-grows c = WorkGrows-refl c.args.history.now c.args.work.now c.requires.stands
