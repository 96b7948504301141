use Rattle.nq_kernel.proofs.GrowingLemmas.{WorkGrows-trans}
use Rattle.nq_lines.proofs.TermLemmas.{term_grown}
use Rattle.nq_schemes.proofs.ordinals.ordinal_by_law.Goals as goal

pub ordinal_by-requires-clause-measure : goal.ordinal_by-requires-clause-measure
ordinal_by-requires-clause-measure c = term_grown c.args.history.now c.args.work.now c.law_line.new.work c.args.measure c.requires.stands c.law_line.ensures.grows c.requires.measure

pub returns-clause-grows : goal.returns-clause-grows
returns-clause-grows c = WorkGrows-trans c.args.history.now c.args.work.now c.law_line.new.work c.ordinal_by.new.work c.law_line.ensures.grows c.ordinal_by.ensures.grows
