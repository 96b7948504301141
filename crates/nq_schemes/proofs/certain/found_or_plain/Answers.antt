use Rattle.nq_kernel.proofs.GrowingLemmas.{WorkGrows-refl}
use Rattle.nq_schemes.proofs.certain.found_or_plain.Goals as goal

pub returns-in-Some-clause-grows : goal.returns-in-Some-clause-grows
returns-in-Some-clause-grows c = WorkGrows-refl c.args.history.now c.args.work.now c.requires.stands

pub returns-then-turn-gt0-clause-grows : goal.returns-then-turn-gt0-clause-grows
returns-then-turn-gt0-clause-grows c = WorkGrows-refl c.args.history.now c.args.work.now c.requires.stands
