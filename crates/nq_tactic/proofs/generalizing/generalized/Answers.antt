use Rattle.nq_kernel.proofs.GrowingLemmas.{WorkGrows-refl}
use Rattle.nq_tactic.proofs.generalizing.generalized.Goals as goal

pub returns-then-not-is_small-clause-grows : goal.returns-then-not-is_small-clause-grows
returns-then-not-is_small-clause-grows c = WorkGrows-refl c.args.history.now c.args.work.now c.requires.stands
