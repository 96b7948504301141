use Rattle.nq_kernel.proofs.GrowingLemmas.{WorkGrows-trans}
use Rattle.nq_lines.proofs.LineLemmas.{line_grown}
use Rattle.nq_lines.proofs.TermLemmas.{term_grown}
use Rattle.nq_types.proofs.denying.without_denied.Goals as goal

pub has_literal-requires-clause-line : goal.has_literal-requires-clause-line
has_literal-requires-clause-line c = (line_grown c.args.history.now c.args.work.now c.denied_literal.new.work c.args.line c.requires.stands c.denied_literal.ensures.grows c.requires.line)

pub without_literal-requires-clause-assumption : goal.without_literal-requires-clause-assumption
without_literal-requires-clause-assumption c = (term_grown c.args.history.now c.args.work.now c.denied_literal.new.work c.args.a c.requires.stands c.denied_literal.ensures.grows c.requires.assumption)

pub without_literal-requires-clause-denied : goal.without_literal-requires-clause-denied
without_literal-requires-clause-denied c = (term_grown c.args.history.now c.args.work.now c.denied_literal.new.work c.args.denied.term c.requires.stands c.denied_literal.ensures.grows c.requires.denied)

pub without_literal-requires-clause-term : goal.without_literal-requires-clause-term
without_literal-requires-clause-term c = (term_grown c.args.history.now c.args.work.now c.denied_literal.new.work c.args.t c.requires.stands c.denied_literal.ensures.grows c.requires.term)

pub without_literal-requires-clause-line : goal.without_literal-requires-clause-line
without_literal-requires-clause-line c = (line_grown c.args.history.now c.args.work.now c.denied_literal.new.work c.args.line c.requires.stands c.denied_literal.ensures.grows c.requires.line)

pub returns-then-has_literal-clause-grows : goal.returns-then-has_literal-clause-grows
returns-then-has_literal-clause-grows c = (WorkGrows-trans c.args.history.now c.args.work.now c.denied_literal.new.work c.without_literal.new.work c.denied_literal.ensures.grows c.without_literal.ensures.grows)

pub returns-else-has_literal-clause-line : goal.returns-else-has_literal-clause-line
returns-else-has_literal-clause-line c = (line_grown c.args.history.now c.args.work.now c.denied_literal.new.work c.args.line c.requires.stands c.denied_literal.ensures.grows c.requires.line)
