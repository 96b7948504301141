use Rattle.nq_kernel.proofs.GrowingLemmas.{WorkGrows-trans}
use Rattle.nq_arithmetic.proofs.lines.law_at.Goals as goal

pub returns-clause-grows : goal.returns-clause-grows
returns-clause-grows c = WorkGrows-trans c.args.history.now c.args.work.now c.pairs_of.new.work c.law_with.new.work c.pairs_of.ensures.grows c.law_with.ensures.grows
