use Rattle.nq_kernel.proofs.GrowingLemmas.{WorkGrows-trans}
use Rattle.nq_lines.proofs.InstanceLemmas.{pairs_in_grown}
use Rattle.nq_types.proofs.numbers.law_at.Goals as goal

pub law_line-requires : goal.law_line-requires
law_line-requires c = record { stands = c.pairs_of_three.ensures.grows.stands }

pub returns-in_err-line-clause-grows : goal.returns-in_err-line-clause-grows
returns-in_err-line-clause-grows c = (WorkGrows-trans c.args.history.now c.args.work.now c.pairs_of_three.new.work c.law_line.new.work c.pairs_of_three.ensures.grows c.law_line.ensures.grows)

pub returns-clause-grows : goal.returns-clause-grows
returns-clause-grows c = (WorkGrows-trans c.args.history.now c.args.work.now c.pairs_of_three.new.work c.instance_of.new.work c.pairs_of_three.ensures.grows (WorkGrows-trans c.args.history.now c.pairs_of_three.new.work c.law_line.new.work c.instance_of.new.work c.law_line.ensures.grows c.instance_of.ensures.grows))

pub instance_of-requires-clause-pairs : goal.instance_of-requires-clause-pairs
instance_of-requires-clause-pairs c = pairs_in_grown c.args.history.now c.pairs_of_three.new.work c.law_line.new.work c.in_ok-pairs.pairs.items c.pairs_of_three.ensures.grows.stands c.law_line.ensures.grows c.in_ok-pairs.ensures.over
