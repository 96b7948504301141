use Rattle.nq_kernel.proofs.GrowingLemmas.{WorkGrows-trans}
use Rattle.nq_lines.proofs.LineLemmas.{line_grown}
use Rattle.nq_lines.proofs.TermLemmas.{term_grown}
use Rattle.nq_types.proofs.truths.truth_value.Goals as goal

pub by_equation-requires-clause-term : goal.by_equation-requires-clause-term
by_equation-requires-clause-term c = term_grown c.args.history.now c.args.work.now c.truth.new.work c.args.t c.requires.stands c.truth.ensures.grows c.requires.term

pub by_equation-requires-clause-line : goal.by_equation-requires-clause-line
by_equation-requires-clause-line c = line_grown c.args.history.now c.args.work.now c.truth.new.work c.args.line c.requires.stands c.truth.ensures.grows c.requires.line

pub by_equation-requires-2-clause-term : goal.by_equation-requires-2-clause-term
by_equation-requires-2-clause-term c = term_grown c.args.history.now c.args.work.now c.falsity.new.work c.args.t c.requires.stands (WorkGrows-trans c.args.history.now c.args.work.now c.truth.new.work c.falsity.new.work c.truth.ensures.grows (WorkGrows-trans c.args.history.now c.truth.new.work c.by_equation.new.work c.falsity.new.work c.by_equation.ensures.grows c.falsity.ensures.grows)) c.requires.term

pub by_equation-requires-2-clause-line : goal.by_equation-requires-2-clause-line
by_equation-requires-2-clause-line c = line_grown c.args.history.now c.by_equation.new.work c.falsity.new.work c.in_ok-first.first c.by_equation.ensures.grows.stands c.falsity.ensures.grows c.in_ok-first.ensures.stands

pub returns-in_err-first-clause-grows : goal.returns-in_err-first-clause-grows
returns-in_err-first-clause-grows c = (WorkGrows-trans c.args.history.now c.args.work.now c.truth.new.work c.by_equation.new.work c.truth.ensures.grows c.by_equation.ensures.grows)

pub returns-in_err-d-clause-grows : goal.returns-in_err-d-clause-grows
returns-in_err-d-clause-grows c = (WorkGrows-trans c.args.history.now c.args.work.now c.truth.new.work c.falsity.new.work c.truth.ensures.grows (WorkGrows-trans c.args.history.now c.truth.new.work c.by_equation.new.work c.falsity.new.work c.by_equation.ensures.grows c.falsity.ensures.grows))

pub returns-clause-grows : goal.returns-clause-grows
returns-clause-grows c = (WorkGrows-trans c.args.history.now c.args.work.now c.truth.new.work c.by_equation-2.new.work c.truth.ensures.grows (WorkGrows-trans c.args.history.now c.truth.new.work c.by_equation.new.work c.by_equation-2.new.work c.by_equation.ensures.grows (WorkGrows-trans c.args.history.now c.by_equation.new.work c.falsity.new.work c.by_equation-2.new.work c.falsity.ensures.grows c.by_equation-2.ensures.grows)))
