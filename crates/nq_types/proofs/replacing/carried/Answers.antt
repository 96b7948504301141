use Rattle.nq_kernel.proofs.GrowingLemmas.{WorkGrows-trans}
use Rattle.nq_lines.proofs.LineLemmas.{line_grown}
use Rattle.nq_lines.proofs.TermLemmas.{term_grown}
use Rattle.nq_types.proofs.replacing.carried.Goals as goal

pub equate-requires-clause-left : goal.equate-requires-clause-left
equate-requires-clause-left c = (term_grown c.args.history.now c.args.work.now c.said_everywhere.new.work c.args.t c.requires.stands c.said_everywhere.ensures.grows c.requires.left)

pub equate-requires-clause-right : goal.equate-requires-clause-right
equate-requires-clause-right c = (term_grown c.args.history.now c.args.work.now c.said_everywhere.new.work c.args.v c.requires.stands c.said_everywhere.ensures.grows c.requires.right)

pub returns-in_err-e-clause-grows : goal.returns-in_err-e-clause-grows
returns-in_err-e-clause-grows c = (WorkGrows-trans c.args.history.now c.args.work.now c.said_everywhere.new.work c.equate.new.work c.said_everywhere.ensures.grows c.equate.ensures.grows)

pub cut-requires-clause-first : goal.cut-requires-clause-first
cut-requires-clause-first c = (line_grown c.args.history.now c.args.work.now c.equate.new.work c.args.equation c.requires.stands (WorkGrows-trans c.args.history.now c.args.work.now c.said_everywhere.new.work c.equate.new.work c.said_everywhere.ensures.grows c.equate.ensures.grows) c.requires.equation)

pub cut-requires-clause-second : goal.cut-requires-clause-second
cut-requires-clause-second c = (line_grown c.args.history.now c.said_everywhere.new.work c.equate.new.work c.in_ok-said.said c.said_everywhere.ensures.grows.stands c.equate.ensures.grows c.in_ok-said.ensures.line)

pub returns-clause-grows : goal.returns-clause-grows
returns-clause-grows c = (WorkGrows-trans c.args.history.now c.args.work.now c.said_everywhere.new.work c.cut.new.work c.said_everywhere.ensures.grows (WorkGrows-trans c.args.history.now c.said_everywhere.new.work c.equate.new.work c.cut.new.work c.equate.ensures.grows c.cut.ensures.grows))
