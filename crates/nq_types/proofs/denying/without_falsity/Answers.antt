use Rattle.nq_kernel.proofs.GrowingLemmas.{WorkGrows-trans}
use Rattle.nq_lines.proofs.LineLemmas.{line_grown}
use Rattle.nq_lines.proofs.TermLemmas.{term_grown}
use Rattle.nq_types.proofs.denying.without_falsity.Goals as goal

pub equated-requires-clause-term : goal.equated-requires-clause-term
equated-requires-clause-term c = (term_grown c.args.history.now c.args.work.now c.falsity.new.work c.args.t c.requires.stands c.falsity.ensures.grows c.requires.term)

pub equated-requires-clause-literal : goal.equated-requires-clause-literal
equated-requires-clause-literal c = (term_grown c.args.history.now c.args.work.now c.falsity.new.work c.args.literal c.requires.stands c.falsity.ensures.grows c.requires.literal)

pub equated-requires-clause-line : goal.equated-requires-clause-line
equated-requires-clause-line c = (line_grown c.args.history.now c.args.work.now c.falsity.new.work c.args.line c.requires.stands c.falsity.ensures.grows c.requires.line)

pub returns-in_err-told-clause-grows : goal.returns-in_err-told-clause-grows
returns-in_err-told-clause-grows c = (WorkGrows-trans c.args.history.now c.args.work.now c.falsity.new.work c.equated.new.work c.falsity.ensures.grows c.equated.ensures.grows)

pub from_equal_false-requires-clause-term : goal.from_equal_false-requires-clause-term
from_equal_false-requires-clause-term c = (term_grown c.args.history.now c.args.work.now c.equated.new.work c.args.t c.requires.stands (WorkGrows-trans c.args.history.now c.args.work.now c.falsity.new.work c.equated.new.work c.falsity.ensures.grows c.equated.ensures.grows) c.requires.term)

pub returns-clause-grows : goal.returns-clause-grows
returns-clause-grows c = (WorkGrows-trans c.args.history.now c.args.work.now c.falsity.new.work c.from_equal_false.new.work c.falsity.ensures.grows (WorkGrows-trans c.args.history.now c.falsity.new.work c.equated.new.work c.from_equal_false.new.work c.equated.ensures.grows c.from_equal_false.ensures.grows))
