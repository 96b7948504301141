use Rattle.nq_bank.proofs.Growth.{IsNamed-grown}
use Rattle.nq_kernel.proofs.GrowingLemmas.{WorkGrows-trans}
use Rattle.nq_types.proofs.rows.row_at.Goals as goal

pub instance_of_row-requires-clause-name : goal.instance_of_row-requires-clause-name
instance_of_row-requires-clause-name c = IsNamed-grown c.args.work.now.bank c.pair_of_x.new.work.bank c.args.name c.pair_of_x.ensures.grows.bank c.requires.name

pub returns-clause-grows : goal.returns-clause-grows
returns-clause-grows c = (WorkGrows-trans c.args.history.now c.args.work.now c.pair_of_x.new.work c.instance_of_row.new.work c.pair_of_x.ensures.grows c.instance_of_row.ensures.grows)
