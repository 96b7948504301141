use Rattle.nq_kernel.proofs.GrowingLemmas.{WorkGrows-refl}
use Rattle.nq_log_tests.proofs.moves.moved.Goals as goal

pub returns-in-Simp-clause-grows : goal.returns-in-Simp-clause-grows
returns-in-Simp-clause-grows c = WorkGrows-refl c.args.history.now c.args.work.now c.requires.stands

pub returns-in-Ind-clause-grows : goal.returns-in-Ind-clause-grows
returns-in-Ind-clause-grows c = WorkGrows-refl c.args.history.now c.args.work.now c.requires.stands
