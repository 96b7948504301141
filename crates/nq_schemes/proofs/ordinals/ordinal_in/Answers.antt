use Rattle.nq_kernel.proofs.GrowingLemmas.{WorkGrows-refl}
use Rattle.nq_schemes.proofs.ordinals.ordinal_in.Goals as goal

pub returns-in-None-clause-grows : goal.returns-in-None-clause-grows
returns-in-None-clause-grows c = WorkGrows-refl c.args.history.now c.args.work.now c.requires.stands

pub returns-then-not-is_own-clause-grows : goal.returns-then-not-is_own-clause-grows
returns-then-not-is_own-clause-grows c = WorkGrows-refl c.args.history.now c.args.work.now c.requires.stands
