use Rattle.nq_kernel.proofs.GrowingLemmas.{WorkGrows-trans}
use Rattle.nq_lines.proofs.LineLemmas.{line_grown, only_stands}
use Rattle.nq_lines.proofs.TermLemmas.{term_grown}
use Rattle.nq_types.proofs.truths.true_or_recognized.Goals as goal

pub falsity-requires : goal.falsity-requires
falsity-requires c = record { stands = c.true_or_false.ensures.grows.stands }

pub returns-in_err-c-clause-grows : goal.returns-in_err-c-clause-grows
returns-in_err-c-clause-grows c = (WorkGrows-trans c.args.history.now c.args.work.now c.true_or_false.new.work c.falsity.new.work c.true_or_false.ensures.grows c.falsity.ensures.grows)

pub by_equation-requires-clause-term : goal.by_equation-requires-clause-term
by_equation-requires-clause-term c = term_grown c.args.history.now c.args.work.now c.falsity.new.work c.args.t c.requires.stands (WorkGrows-trans c.args.history.now c.args.work.now c.true_or_false.new.work c.falsity.new.work c.true_or_false.ensures.grows c.falsity.ensures.grows) c.requires.term

pub by_equation-requires-clause-line : goal.by_equation-requires-clause-line
by_equation-requires-clause-line c = line_grown c.args.history.now c.true_or_false.new.work c.falsity.new.work c.in_ok-line.line c.true_or_false.ensures.grows.stands c.falsity.ensures.grows (only_stands c.true_or_false.new.work c.in_ok-line.line _ c.in_ok-line.ensures.line)

pub returns-clause-grows : goal.returns-clause-grows
returns-clause-grows c = (WorkGrows-trans c.args.history.now c.args.work.now c.true_or_false.new.work c.by_equation.new.work c.true_or_false.ensures.grows (WorkGrows-trans c.args.history.now c.true_or_false.new.work c.falsity.new.work c.by_equation.new.work c.falsity.ensures.grows c.by_equation.ensures.grows))
