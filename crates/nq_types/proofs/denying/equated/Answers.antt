use Rattle.nq_kernel.proofs.GrowingLemmas.{WorkGrows-trans}
use Rattle.nq_lines.proofs.LineLemmas.{line_grown, only_stands}
use Rattle.nq_lines.proofs.TermLemmas.{term_grown}
use Rattle.nq_types.proofs.denying.equated.Goals as goal

pub recognizer_opens-requires-clause-term : goal.recognizer_opens-requires-clause-term
recognizer_opens-requires-clause-term c = (term_grown c.args.history.now c.args.work.now c.equate.new.work c.args.t c.requires.stands c.equate.ensures.grows c.requires.term)

pub returns-in_err-law-clause-grows : goal.returns-in_err-law-clause-grows
returns-in_err-law-clause-grows c = (WorkGrows-trans c.args.history.now c.args.work.now c.equate.new.work c.recognizer_opens.new.work c.equate.ensures.grows c.recognizer_opens.ensures.grows)

pub rewrite_literal-requires-clause-left : goal.rewrite_literal-requires-clause-left
rewrite_literal-requires-clause-left c = (term_grown c.args.history.now c.args.work.now c.recognizer_opens.new.work c.args.literal c.requires.stands (WorkGrows-trans c.args.history.now c.args.work.now c.equate.new.work c.recognizer_opens.new.work c.equate.ensures.grows c.recognizer_opens.ensures.grows) c.requires.literal)

pub rewrite_literal-requires-clause-right : goal.rewrite_literal-requires-clause-right
rewrite_literal-requires-clause-right c = (term_grown c.args.history.now c.equate.new.work c.recognizer_opens.new.work c.in_ok-e.e c.equate.ensures.grows.stands c.recognizer_opens.ensures.grows c.in_ok-e.ensures.over)

pub rewrite_literal-requires-clause-line : goal.rewrite_literal-requires-clause-line
rewrite_literal-requires-clause-line c = (line_grown c.args.history.now c.args.work.now c.recognizer_opens.new.work c.args.line c.requires.stands (WorkGrows-trans c.args.history.now c.args.work.now c.equate.new.work c.recognizer_opens.new.work c.equate.ensures.grows c.recognizer_opens.ensures.grows) c.requires.line)

pub rewrite_literal-requires-clause-equation : goal.rewrite_literal-requires-clause-equation
rewrite_literal-requires-clause-equation c = (only_stands c.recognizer_opens.new.work c.in_ok-law.law _ c.in_ok-law.ensures.line)

pub returns-clause-grows : goal.returns-clause-grows
returns-clause-grows c = (WorkGrows-trans c.args.history.now c.args.work.now c.equate.new.work c.rewrite_literal.new.work c.equate.ensures.grows (WorkGrows-trans c.args.history.now c.equate.new.work c.recognizer_opens.new.work c.rewrite_literal.new.work c.recognizer_opens.ensures.grows c.rewrite_literal.ensures.grows))
