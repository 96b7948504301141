use Rattle.nq_kernel.proofs.GrowingLemmas.{WorkGrows-trans}
use Rattle.nq_lines.proofs.TermLemmas.{term_grown}
use Rattle.nq_schemes.proofs.ordinals.ordinal_for.Goals as goal

pub ordinal_by_law-requires-clause-measure : goal.ordinal_by_law-requires-clause-measure
ordinal_by_law-requires-clause-measure c = term_grown c.args.history.now c.args.work.now c.known_ordinal.new.work c.args.measure c.requires.stands c.known_ordinal.ensures.grows c.requires.measure

pub returns-in-None-clause-grows : goal.returns-in-None-clause-grows
returns-in-None-clause-grows c = WorkGrows-trans c.args.history.now c.args.work.now c.known_ordinal.new.work c.ordinal_by_law.new.work c.known_ordinal.ensures.grows c.ordinal_by_law.ensures.grows
