use Rattle.nq_kernel.proofs.GrowingLemmas.{WorkGrows-trans}
use Rattle.nq_schemes.proofs.owed.owed_falling.Goals as goal

pub returns-in-Some-clause-grows : goal.returns-in-Some-clause-grows
returns-in-Some-clause-grows c = WorkGrows-trans c.args.history.now c.args.work.now c.basis_of.new.work c.owed_by.new.work c.basis_of.ensures.grows c.owed_by.ensures.grows
