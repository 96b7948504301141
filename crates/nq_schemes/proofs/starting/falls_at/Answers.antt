use Rattle.nq_kernel.proofs.GrowingLemmas.{WorkGrows-trans}
use Rattle.nq_lines.proofs.TermLemmas.{term_grown}
use Rattle.nq_schemes.proofs.starting.falls_at.Goals as goal

pub below-requires-clause-right : goal.below-requires-clause-right
below-requires-clause-right c = term_grown c.args.history.now c.args.work.now c.instance_of.new.work c.args.basis.now.measure c.requires.stands c.instance_of.ensures.grows c.requires.basis.measure

pub returns-clause-grows : goal.returns-clause-grows
returns-clause-grows c = WorkGrows-trans c.args.history.now c.args.work.now c.instance_of.new.work c.below.new.work c.instance_of.ensures.grows c.below.ensures.grows
