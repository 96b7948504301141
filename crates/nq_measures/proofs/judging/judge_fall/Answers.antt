use Rattle.nq_kernel.proofs.GrowingLemmas.{WorkGrows-refl}
use Rattle.nq_measures.proofs.judging.judge_fall.Goals as goal

pub returns-in_err-mentions_at-clause-grows : goal.returns-in_err-mentions_at-clause-grows
returns-in_err-mentions_at-clause-grows g c = WorkGrows-refl c.args.history.now c.args.work.now c.requires.stands

pub returns-then-branch-clause-grows : goal.returns-then-branch-clause-grows
returns-then-branch-clause-grows g c = WorkGrows-refl c.args.history.now c.args.work.now c.requires.stands
