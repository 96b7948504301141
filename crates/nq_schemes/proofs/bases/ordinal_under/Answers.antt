use Rattle.nq_kernel.proofs.GrowingLemmas.{WorkGrows-trans}
use Rattle.nq_schemes.proofs.bases.ordinal_under.Goals as goal

pub returns-clause-grows : goal.returns-clause-grows
returns-clause-grows c = WorkGrows-trans c.args.history.now c.args.work.now c.instance_of.new.work c.ordinal_for.new.work c.instance_of.ensures.grows c.ordinal_for.ensures.grows
