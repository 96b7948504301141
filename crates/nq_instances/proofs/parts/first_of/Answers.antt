use Rattle.nq_kernel.proofs.GrowingLemmas.{WorkGrows-trans}
use Rattle.nq_lines.proofs.LineLemmas.{line_grown}
use Rattle.nq_lines.proofs.TermLemmas.{term_grown}
use Rattle.nq_instances.proofs.PartLemmas.{first_line}
use Rattle.nq_instances.proofs.parts.first_of.Goals as goal

pub rewrite_literal-requires-clause-left : goal.rewrite_literal-requires-clause-left
rewrite_literal-requires-clause-left c = term_grown c.args.history.now c.args.work.now c.if_true.new.work c.args.fact.term c.requires.stands c.if_true.ensures.grows c.requires.fact.term

pub rewrite_literal-requires-clause-right : goal.rewrite_literal-requires-clause-right
rewrite_literal-requires-clause-right c = term_grown c.args.history.now c.args.work.now c.if_true.new.work c.args.parts.first c.requires.stands c.if_true.ensures.grows c.requires.parts.first

pub rewrite_literal-requires-clause-line : goal.rewrite_literal-requires-clause-line
rewrite_literal-requires-clause-line c = line_grown c.args.history.now c.args.work.now c.if_true.new.work c.args.fact.line c.requires.stands c.if_true.ensures.grows c.requires.fact.line

pub returns-in_err-line-clause-grows : goal.returns-in_err-line-clause-grows
returns-in_err-line-clause-grows c = (WorkGrows-trans c.args.history.now c.args.work.now c.if_true.new.work c.rewrite_literal.new.work c.if_true.ensures.grows c.rewrite_literal.ensures.grows)

pub returns-clause-fact : goal.returns-clause-fact
returns-clause-fact c = first_line c.args.history.now c.args.work.now c.if_true.new.work c.rewrite_literal.new.work c.args.fact c.args.known c.args.parts c.in_ok-equation.equation c.in_ok-line.line c.requires.stands c.if_true.ensures.grows (WorkGrows-trans c.args.history.now c.args.work.now c.if_true.new.work c.rewrite_literal.new.work c.if_true.ensures.grows c.rewrite_literal.ensures.grows) c.requires.fact c.requires.parts c.requires.test c.in_ok-equation.ensures.line c.in_ok-line.ensures.line c.in_ok-line.ensures.stands

pub returns-clause-grows : goal.returns-clause-grows
returns-clause-grows c = (WorkGrows-trans c.args.history.now c.args.work.now c.if_true.new.work c.rewrite_literal.new.work c.if_true.ensures.grows c.rewrite_literal.ensures.grows)
