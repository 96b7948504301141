use Rattle.nq_kernel.proofs.GrowingLemmas.{WorkGrows-refl}
use Rattle.nq_types.proofs.replacing.replaced.Goals as goal

pub added-requires-clause-allowed : goal.added-requires-clause-allowed
added-requires-clause-allowed c = c.in_ok-is_allowed.ensures.allowed c.if-branch.true

pub returns-in_err-is_allowed-clause-grows : goal.returns-in_err-is_allowed-clause-grows
returns-in_err-is_allowed-clause-grows c = WorkGrows-refl c.args.history.now c.args.work.now c.requires.stands

pub returns-else-branch-clause-grows : goal.returns-else-branch-clause-grows
returns-else-branch-clause-grows c = WorkGrows-refl c.args.history.now c.args.work.now c.requires.stands
