use Rattle.nq_kernel.proofs.GrowingLemmas.{WorkGrows-trans}
use Rattle.nq_schemes.proofs.schemes.scheme_falling.Goals as goal

pub returns-in-Some-clause-grows : goal.returns-in-Some-clause-grows
returns-in-Some-clause-grows c = WorkGrows-trans c.args.history.now c.args.work.now c.basis_of.new.work c.scheme_by.new.work c.basis_of.ensures.grows c.scheme_by.ensures.grows
