use Rattle.std.proofs.Common.{refl}
use Rattle.nq_kernel.proofs.GrowingLemmas.{WorkGrows-trans}
use Rattle.nq_arithmetic.proofs.making.one_more_than_x.Goals as goal

pub variable-requires-clause-name : goal.variable-requires-clause-name
variable-requires-clause-name c = record { symbol = refl; other = refl }

pub returns-clause-grows : goal.returns-clause-grows
returns-clause-grows c = WorkGrows-trans c.args.history.now c.args.work.now c.variable.new.work c.call_one.new.work c.variable.ensures.grows c.call_one.ensures.grows
