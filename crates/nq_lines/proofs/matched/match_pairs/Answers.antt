use Rattle.nq_kernel.proofs.GrowingLemmas.{WorkGrows-refl}
use Rattle.nq_lines.proofs.matched.match_pairs.Goals as goal

pub returns-in-Ok-false-clause-grows : goal.returns-in-Ok-false-clause-grows
returns-in-Ok-false-clause-grows c = WorkGrows-refl c.args.history.now c.args.work.now c.requires.stands

pub returns-clause-grows : goal.returns-clause-grows
returns-clause-grows c = WorkGrows-refl c.args.history.now c.args.work.now c.requires.stands
