use Rattle.nq_kernel.proofs.GrowingLemmas.{WorkGrows-trans}
use Rattle.nq_lines.proofs.LineLemmas.{line_grown}
use Rattle.nq_lines.proofs.TermLemmas.{term_grown}
use Rattle.nq_types.proofs.numbers.less_value.Goals as goal

pub cut-requires-clause-second : goal.cut-requires-clause-second
cut-requires-clause-second c = line_grown c.args.history.now c.args.work.now c.true_or_false.new.work c.args.law c.requires.stands c.true_or_false.ensures.grows c.requires.law

pub cut-requires-clause-term : goal.cut-requires-clause-term
cut-requires-clause-term c = term_grown c.args.history.now c.args.work.now c.true_or_false.new.work c.args.t c.requires.stands c.true_or_false.ensures.grows c.requires.term

pub returns-in_err-line-clause-grows : goal.returns-in_err-line-clause-grows
returns-in_err-line-clause-grows c = (WorkGrows-trans c.args.history.now c.args.work.now c.true_or_false.new.work c.cut.new.work c.true_or_false.ensures.grows c.cut.ensures.grows)

pub truth_value-requires-clause-term : goal.truth_value-requires-clause-term
truth_value-requires-clause-term c = term_grown c.args.history.now c.args.work.now c.cut.new.work c.args.t c.requires.stands (WorkGrows-trans c.args.history.now c.args.work.now c.true_or_false.new.work c.cut.new.work c.true_or_false.ensures.grows c.cut.ensures.grows) c.requires.term

pub returns-in_err-told-clause-grows : goal.returns-in_err-told-clause-grows
returns-in_err-told-clause-grows c = (WorkGrows-trans c.args.history.now c.args.work.now c.true_or_false.new.work c.truth_value.new.work c.true_or_false.ensures.grows (WorkGrows-trans c.args.history.now c.true_or_false.new.work c.cut.new.work c.truth_value.new.work c.cut.ensures.grows c.truth_value.ensures.grows))

pub returns-clause-grows : goal.returns-clause-grows
returns-clause-grows c = (WorkGrows-trans c.args.history.now c.args.work.now c.true_or_false.new.work c.truth_value.new.work c.true_or_false.ensures.grows (WorkGrows-trans c.args.history.now c.true_or_false.new.work c.cut.new.work c.truth_value.new.work c.cut.ensures.grows c.truth_value.ensures.grows))
