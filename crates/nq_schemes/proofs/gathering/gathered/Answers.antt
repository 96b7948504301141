use Rattle.nq_kernel.proofs.GrowingLemmas.{WorkGrows-trans}
use Rattle.nq_schemes.proofs.gathering.gathered.Goals as goal

pub returns-clause-grows : goal.returns-clause-grows
returns-clause-grows c = WorkGrows-trans c.args.history.now c.args.work.now c.gather.new.work c.deny_twice.new.work c.gather.ensures.grows c.deny_twice.ensures.grows
