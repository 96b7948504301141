use Rattle.nq_kernel.proofs.GrowingLemmas.{WorkGrows-trans}
use Rattle.nq_lines.proofs.LineLemmas.{line_grown}
use Rattle.nq_lines.proofs.TermLemmas.{term_grown}
use Rattle.nq_types.proofs.assumptions.told_false.Goals as goal

pub opposites-requires-clause-term : goal.opposites-requires-clause-term
opposites-requires-clause-term c = term_grown c.args.history.now c.args.work.now c.true_or_recognized.new.work c.args.a c.requires.stands c.true_or_recognized.ensures.grows c.requires.assumption

pub returns-in_err-second-clause-grows : goal.returns-in_err-second-clause-grows
returns-in_err-second-clause-grows c = (WorkGrows-trans c.args.history.now c.args.work.now c.true_or_recognized.new.work c.opposites.new.work c.true_or_recognized.ensures.grows c.opposites.ensures.grows)

pub cut-requires-clause-first : goal.cut-requires-clause-first
cut-requires-clause-first c = line_grown c.args.history.now c.true_or_recognized.new.work c.opposites.new.work c.in_ok-first.first c.true_or_recognized.ensures.grows.stands c.opposites.ensures.grows c.in_ok-first.ensures.line

pub cut-requires-clause-term : goal.cut-requires-clause-term
cut-requires-clause-term c = term_grown c.args.history.now c.args.work.now c.opposites.new.work c.args.t c.requires.stands (WorkGrows-trans c.args.history.now c.args.work.now c.true_or_recognized.new.work c.opposites.new.work c.true_or_recognized.ensures.grows c.opposites.ensures.grows) c.requires.term

pub returns-in_err-line-clause-grows : goal.returns-in_err-line-clause-grows
returns-in_err-line-clause-grows c = (WorkGrows-trans c.args.history.now c.args.work.now c.true_or_recognized.new.work c.cut.new.work c.true_or_recognized.ensures.grows (WorkGrows-trans c.args.history.now c.true_or_recognized.new.work c.opposites.new.work c.cut.new.work c.opposites.ensures.grows c.cut.ensures.grows))

pub returns-clause-grows : goal.returns-clause-grows
returns-clause-grows c = (WorkGrows-trans c.args.history.now c.args.work.now c.true_or_recognized.new.work c.cut.new.work c.true_or_recognized.ensures.grows (WorkGrows-trans c.args.history.now c.true_or_recognized.new.work c.opposites.new.work c.cut.new.work c.opposites.ensures.grows c.cut.ensures.grows))
