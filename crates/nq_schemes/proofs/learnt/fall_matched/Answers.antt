use Rattle.nq_kernel.proofs.GrowingLemmas.{WorkGrows-trans}
use Rattle.nq_lines.proofs.LineLemmas.{line_grown}
use Rattle.nq_schemes.proofs.MadeLemmas.{instance_stands}
use Rattle.nq_schemes.proofs.learnt.fall_matched.Goals as goal

pub instance-requires-clause-line : goal.instance-requires-clause-line
instance-requires-clause-line c = line_grown c.args.history.now c.args.work.now c.match_pairs.new.work c.args.line c.requires.stands c.match_pairs.ensures.grows c.requires.line

pub fitting-requires-clause-line : goal.fitting-requires-clause-line
fitting-requires-clause-line c = instance_stands c.match_pairs.new.work c.instance.new.work _ c.args.line c.in_ok-n-in-Some.n (line_grown c.args.history.now c.args.work.now c.match_pairs.new.work c.args.line c.requires.stands c.match_pairs.ensures.grows c.requires.line) c.in_ok-n-in-Some.ensures.line

pub returns-in_err-n-in-Some-clause-grows : goal.returns-in_err-n-in-Some-clause-grows
returns-in_err-n-in-Some-clause-grows c = WorkGrows-trans c.args.history.now c.args.work.now c.match_pairs.new.work c.instance.new.work c.match_pairs.ensures.grows c.instance.ensures.grows

pub returns-in_ok-n-in-Some-clause-grows : goal.returns-in_ok-n-in-Some-clause-grows
returns-in_ok-n-in-Some-clause-grows c = WorkGrows-trans c.args.history.now c.args.work.now c.match_pairs.new.work c.instance.new.work c.match_pairs.ensures.grows c.instance.ensures.grows
