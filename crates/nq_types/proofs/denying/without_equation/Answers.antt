use Rattle.nq_kernel.proofs.GrowingLemmas.{WorkGrows-trans}
use Rattle.nq_lines.proofs.LineLemmas.{line_grown}
use Rattle.nq_lines.proofs.TermLemmas.{term_grown}
use Rattle.nq_types.proofs.denying.without_equation.Goals as goal

pub equate-requires-clause-left : goal.equate-requires-clause-left
equate-requires-clause-left c = (term_grown c.args.history.now c.args.work.now c.symmetric.new.work c.args.c c.requires.stands c.symmetric.ensures.grows c.requires.constant)

pub equate-requires-clause-right : goal.equate-requires-clause-right
equate-requires-clause-right c = (term_grown c.args.history.now c.args.work.now c.symmetric.new.work c.args.t c.requires.stands c.symmetric.ensures.grows c.requires.term)

pub returns-in_err-q-clause-grows : goal.returns-in_err-q-clause-grows
returns-in_err-q-clause-grows c = (WorkGrows-trans c.args.history.now c.args.work.now c.symmetric.new.work c.equate.new.work c.symmetric.ensures.grows c.equate.ensures.grows)

pub deny_twice-requires-clause-line : goal.deny_twice-requires-clause-line
deny_twice-requires-clause-line c = (line_grown c.args.history.now c.symmetric.new.work c.equate.new.work c.in_ok-told.told c.symmetric.ensures.grows.stands c.equate.ensures.grows c.in_ok-told.ensures.stands)

pub returns-in_ok-q-clause-grows : goal.returns-in_ok-q-clause-grows
returns-in_ok-q-clause-grows c = (WorkGrows-trans c.args.history.now c.args.work.now c.symmetric.new.work c.deny_twice.new.work c.symmetric.ensures.grows (WorkGrows-trans c.args.history.now c.symmetric.new.work c.equate.new.work c.deny_twice.new.work c.equate.ensures.grows c.deny_twice.ensures.grows))

pub deny_twice-requires-else-turned-clause-line : goal.deny_twice-requires-else-turned-clause-line
deny_twice-requires-else-turned-clause-line c = (line_grown c.args.history.now c.args.work.now c.equate-else-turned.new.work c.args.line c.requires.stands c.equate-else-turned.ensures.grows c.requires.line)

pub returns-in_ok-q-2-clause-grows : goal.returns-in_ok-q-2-clause-grows
returns-in_ok-q-2-clause-grows c = (WorkGrows-trans c.args.history.now c.args.work.now c.equate-else-turned.new.work c.deny_twice-else-turned.new.work c.equate-else-turned.ensures.grows c.deny_twice-else-turned.ensures.grows)
