use Rattle.nq_kernel.proofs.GrowingLemmas.{WorkGrows-refl}
use Rattle.nq_simplify.proofs.ChoosingLemmas.{no_counts}
use Rattle.nq_simplify.proofs.splitting.split_here.Goals as goal

pub returns-then-at-goal-clause-grows : goal.returns-then-at-goal-clause-grows
returns-then-at-goal-clause-grows c = WorkGrows-refl c.args.history.now c.args.work.now c.requires.stands

pub split_at-requires-clause-counts : goal.split_at-requires-clause-counts
split_at-requires-clause-counts c = no_counts c.args.work.now.bank c.new-known.result c.new-known.ensures.empty
