use Rattle.nq_kernel.proofs.GrowingLemmas.{WorkGrows-trans}
use Rattle.nq_lines.proofs.LineLemmas.{line_grown}
use Rattle.nq_lines.proofs.TermLemmas.{term_grown}
use Rattle.nq_types.proofs.nesting.closed.Goals as goal

pub opening-requires-clause-ready : goal.opening-requires-clause-ready
opening-requires-clause-ready c = c.own_terms.ensures c.args.work.now.bank c.args.history.now c.requires.ready

pub rewrite_literal-requires-clause-left : goal.rewrite_literal-requires-clause-left
rewrite_literal-requires-clause-left c = (term_grown c.args.history.now c.args.work.now c.opening.new.work c.args.body.term c.requires.stands c.opening.ensures.grows c.requires.body.term)

pub rewrite_literal-requires-clause-right : goal.rewrite_literal-requires-clause-right
rewrite_literal-requires-clause-right c = (term_grown c.args.history.now c.args.work.now c.opening.new.work c.args.term c.requires.stands c.opening.ensures.grows c.requires.term)

pub rewrite_literal-requires-clause-line : goal.rewrite_literal-requires-clause-line
rewrite_literal-requires-clause-line c = (line_grown c.args.history.now c.args.work.now c.opening.new.work c.args.body.line c.requires.stands c.opening.ensures.grows c.requires.body.line)

pub returns-in_err-line-in-Some-clause-grows : goal.returns-in_err-line-in-Some-clause-grows
returns-in_err-line-in-Some-clause-grows c = (WorkGrows-trans c.args.history.now c.args.work.now c.opening.new.work c.rewrite_literal.new.work c.opening.ensures.grows c.rewrite_literal.ensures.grows)

pub returns-in_ok-line-in-Some-clause-grows : goal.returns-in_ok-line-in-Some-clause-grows
returns-in_ok-line-in-Some-clause-grows c = (WorkGrows-trans c.args.history.now c.args.work.now c.opening.new.work c.rewrite_literal.new.work c.opening.ensures.grows c.rewrite_literal.ensures.grows)

pub returns-in_ok-line-in-Some-clause-fact : goal.returns-in_ok-line-in-Some-clause-fact
returns-in_ok-line-in-Some-clause-fact c = record { term = (term_grown c.args.history.now c.args.work.now c.rewrite_literal.new.work c.args.term c.requires.stands (WorkGrows-trans c.args.history.now c.args.work.now c.opening.new.work c.rewrite_literal.new.work c.opening.ensures.grows c.rewrite_literal.ensures.grows) c.requires.term); line = c.in_ok-line-in-Some.ensures.stands }
