use Rattle.nq_kernel.proofs.GrowingLemmas.{WorkGrows-trans}
use Rattle.nq_lines.proofs.LineLemmas.{line_grown}
use Rattle.nq_lines.proofs.TermLemmas.{term_grown}
use Rattle.nq_types.proofs.denying.without_recognizer.Goals as goal

pub cut-requires-clause-first : goal.cut-requires-clause-first
cut-requires-clause-first c = (line_grown c.args.history.now c.args.work.now c.opposites.new.work c.args.line c.requires.stands c.opposites.ensures.grows c.requires.line)

pub cut-requires-clause-term : goal.cut-requires-clause-term
cut-requires-clause-term c = (term_grown c.args.history.now c.args.work.now c.opposites.new.work c.args.q c.requires.stands c.opposites.ensures.grows c.requires.term)

pub returns-clause-grows : goal.returns-clause-grows
returns-clause-grows c = (WorkGrows-trans c.args.history.now c.args.work.now c.opposites.new.work c.cut.new.work c.opposites.ensures.grows c.cut.ensures.grows)
