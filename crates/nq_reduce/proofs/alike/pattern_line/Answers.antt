use Rattle.nq_kernel.proofs.GrowingLemmas.{WorkGrows-trans}
use Rattle.nq_reduce.proofs.ClauseLemmas.{line_in_grown}
use Rattle.nq_reduce.proofs.alike.pattern_line.Goals as goal

pub instance_line-requires-clause-line : goal.instance_line-requires-clause-line
instance_line-requires-clause-line c = line_in_grown c.args.history.now c.args.work.now c.match_pairs.new.work c.match_pairs.ensures.grows c.args.line c.requires.can.stands c.requires.line

pub returns-in-Some-clause-grows : goal.returns-in-Some-clause-grows
returns-in-Some-clause-grows c = WorkGrows-trans c.args.history.now c.args.work.now c.match_pairs.new.work c.instance_line.new.work c.match_pairs.ensures.grows c.instance_line.ensures.grows
