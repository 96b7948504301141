use Rattle.nq_kernel.proofs.GrowingLemmas.{WorkGrows-trans}
use Rattle.nq_types.proofs.rows.equation_row.Goals as goal

pub returns-clause-grows : goal.returns-clause-grows
returns-clause-grows c = (WorkGrows-trans c.args.history.now c.args.work.now c.pairs_of_three.new.work c.instance_of_row.new.work c.pairs_of_three.ensures.grows c.instance_of_row.ensures.grows)
