use Rattle.nq_kernel.proofs.GrowingLemmas.{WorkGrows-refl, WorkGrows-trans}
use Rattle.nq_schemes.proofs.ordinals.ordinal_by.Goals as goal

pub returns-in-Some-found-clause-grows : goal.returns-in-Some-found-clause-grows
returns-in-Some-found-clause-grows c = WorkGrows-trans c.args.history.now c.args.work.now c.instance_at.new.work c.ordinal_in.new.work c.instance_at.ensures.grows c.ordinal_in.ensures.grows

pub returns-in-None-clause-grows : goal.returns-in-None-clause-grows
returns-in-None-clause-grows c = WorkGrows-refl c.args.history.now c.args.work.now c.requires.stands
