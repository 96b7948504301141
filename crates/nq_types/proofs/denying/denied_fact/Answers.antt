use Rattle.nq_kernel.proofs.GrowingLemmas.{WorkGrows-trans}
use Rattle.nq_lines.proofs.LineLemmas.{line_grown}
use Rattle.nq_lines.proofs.TermLemmas.{term_grown}
use Rattle.nq_types.proofs.denying.denied_fact.Goals as goal

pub returns-in_err-law-clause-grows : goal.returns-in_err-law-clause-grows
returns-in_err-law-clause-grows c = (WorkGrows-trans c.args.history.now c.args.work.now c.denied_literal.new.work c.opposites.new.work c.denied_literal.ensures.grows c.opposites.ensures.grows)

pub without_literal-requires-clause-assumption : goal.without_literal-requires-clause-assumption
without_literal-requires-clause-assumption c = (term_grown c.args.history.now c.args.work.now c.opposites.new.work c.args.a c.requires.stands (WorkGrows-trans c.args.history.now c.args.work.now c.denied_literal.new.work c.opposites.new.work c.denied_literal.ensures.grows c.opposites.ensures.grows) c.requires.assumption)

pub without_literal-requires-clause-denied : goal.without_literal-requires-clause-denied
without_literal-requires-clause-denied c = (term_grown c.args.history.now c.args.work.now c.opposites.new.work c.args.denied.term c.requires.stands (WorkGrows-trans c.args.history.now c.args.work.now c.denied_literal.new.work c.opposites.new.work c.denied_literal.ensures.grows c.opposites.ensures.grows) c.requires.denied)

pub without_literal-requires-clause-term : goal.without_literal-requires-clause-term
without_literal-requires-clause-term c = (term_grown c.args.history.now c.args.work.now c.opposites.new.work c.args.t c.requires.stands (WorkGrows-trans c.args.history.now c.args.work.now c.denied_literal.new.work c.opposites.new.work c.denied_literal.ensures.grows c.opposites.ensures.grows) c.requires.term)

pub without_literal-requires-clause-literal : goal.without_literal-requires-clause-literal
without_literal-requires-clause-literal c = (term_grown c.args.history.now c.denied_literal.new.work c.opposites.new.work c.in_ok-literal.literal c.denied_literal.ensures.grows.stands c.opposites.ensures.grows c.in_ok-literal.ensures.over)

pub returns-in_err-line-clause-grows : goal.returns-in_err-line-clause-grows
returns-in_err-line-clause-grows c = (WorkGrows-trans c.args.history.now c.args.work.now c.denied_literal.new.work c.without_literal.new.work c.denied_literal.ensures.grows (WorkGrows-trans c.args.history.now c.denied_literal.new.work c.opposites.new.work c.without_literal.new.work c.opposites.ensures.grows c.without_literal.ensures.grows))

pub deny-requires-clause-term : goal.deny-requires-clause-term
deny-requires-clause-term c = (term_grown c.args.history.now c.denied_literal.new.work c.without_literal.new.work c.in_ok-literal.literal c.denied_literal.ensures.grows.stands (WorkGrows-trans c.args.history.now c.denied_literal.new.work c.opposites.new.work c.without_literal.new.work c.opposites.ensures.grows c.without_literal.ensures.grows) c.in_ok-literal.ensures.over)

pub returns-in_err-term-clause-grows : goal.returns-in_err-term-clause-grows
returns-in_err-term-clause-grows c = (WorkGrows-trans c.args.history.now c.args.work.now c.denied_literal.new.work c.deny.new.work c.denied_literal.ensures.grows (WorkGrows-trans c.args.history.now c.denied_literal.new.work c.opposites.new.work c.deny.new.work c.opposites.ensures.grows (WorkGrows-trans c.args.history.now c.opposites.new.work c.without_literal.new.work c.deny.new.work c.without_literal.ensures.grows c.deny.ensures.grows)))

pub returns-clause-grows : goal.returns-clause-grows
returns-clause-grows c = (WorkGrows-trans c.args.history.now c.args.work.now c.denied_literal.new.work c.deny.new.work c.denied_literal.ensures.grows (WorkGrows-trans c.args.history.now c.denied_literal.new.work c.opposites.new.work c.deny.new.work c.opposites.ensures.grows (WorkGrows-trans c.args.history.now c.opposites.new.work c.without_literal.new.work c.deny.new.work c.without_literal.ensures.grows c.deny.ensures.grows)))

pub returns-clause-fact : goal.returns-clause-fact
returns-clause-fact c = record { term = c.in_ok-term.ensures.over; line = (line_grown c.args.history.now c.without_literal.new.work c.deny.new.work c.in_ok-line.line c.without_literal.ensures.grows.stands c.deny.ensures.grows c.in_ok-line.ensures.line) }
