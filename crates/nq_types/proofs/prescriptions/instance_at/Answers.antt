use Rattle.nq_kernel.proofs.GrowingLemmas.{WorkGrows-trans}
use Rattle.nq_lines.proofs.LineLemmas.{line_grown}
use Rattle.nq_types.proofs.prescriptions.instance_at.Goals as goal

pub instance_of-requires-clause-line : goal.instance_of-requires-clause-line
instance_of-requires-clause-line c = line_grown c.args.history.now c.args.work.now c.match_pairs.new.work c.args.line c.requires.stands c.match_pairs.ensures.grows c.requires.line

pub returns-in-Some-clause-grows : goal.returns-in-Some-clause-grows
returns-in-Some-clause-grows c = (WorkGrows-trans c.args.history.now c.args.work.now c.match_pairs.new.work c.instance_of.new.work c.match_pairs.ensures.grows c.instance_of.ensures.grows)
