use Rattle.nq_kernel.proofs.GrowingLemmas.{WorkGrows-trans}
use Rattle.nq_lines.proofs.InstanceLemmas.{pairs_in_grown}
use Rattle.nq_arithmetic.proofs.lines.law_with.Goals as goal

pub instance_of-requires-clause-pairs : goal.instance_of-requires-clause-pairs
instance_of-requires-clause-pairs c = pairs_in_grown c.args.history.now c.args.work.now c.law_line.new.work c.args.pairs.items c.requires.stands c.law_line.ensures.grows c.requires.pairs

pub returns-clause-grows : goal.returns-clause-grows
returns-clause-grows c = WorkGrows-trans c.args.history.now c.args.work.now c.law_line.new.work c.instance_of.new.work c.law_line.ensures.grows c.instance_of.ensures.grows
