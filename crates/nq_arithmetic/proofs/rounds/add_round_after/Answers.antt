use Rattle.nq_kernel.proofs.GrowingLemmas.{WorkGrows-refl}
use Rattle.nq_arithmetic.proofs.rounds.add_round_after.Goals as goal

pub returns-then-not-added-clause-grows : goal.returns-then-not-added-clause-grows
returns-then-not-added-clause-grows c = WorkGrows-refl c.args.history.now c.args.work.now c.requires.stands
