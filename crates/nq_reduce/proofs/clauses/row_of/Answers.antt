use Rattle.nq_kernel.proofs.GrowingLemmas.{WorkGrows-refl}
use Rattle.nq_reduce.proofs.clauses.row_of.Goals as goal

pub returns-in_err-has_row-clause-grows : goal.returns-in_err-has_row-clause-grows
returns-in_err-has_row-clause-grows c = WorkGrows-refl c.args.history.now c.args.work.now c.requires.stands

pub returns-else-branch-clause-grows : goal.returns-else-branch-clause-grows
returns-else-branch-clause-grows c = WorkGrows-refl c.args.history.now c.args.work.now c.requires.stands
