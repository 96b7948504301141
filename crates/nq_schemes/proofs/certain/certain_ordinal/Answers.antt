use Rattle.nq_kernel.proofs.GrowingLemmas.{WorkGrows-trans}
use Rattle.nq_schemes.proofs.certain.certain_ordinal.Goals as goal

pub returns-in-None-clause-grows : goal.returns-in-None-clause-grows
returns-in-None-clause-grows c = WorkGrows-trans c.args.history.now c.args.work.now c.ordinal_found.new.work c.ordinal_of_truth.new.work c.ordinal_found.ensures.grows c.ordinal_of_truth.ensures.grows
