use Rattle.nq_kernel.proofs.GrowingLemmas.{WorkGrows-trans}
use Rattle.nq_lines.proofs.LineLemmas.{line_grown}
use Rattle.nq_lines.proofs.TermLemmas.{term_grown}
use Rattle.nq_types.proofs.prescriptions.known_at.Goals as goal

pub defined_at-requires-clause-line : goal.defined_at-requires-clause-line
defined_at-requires-clause-line c = line_grown c.args.history.now c.args.work.now c.row_fact.new.work c.args.line c.requires.stands c.row_fact.ensures.grows c.requires.line

pub defined_at-requires-clause-term : goal.defined_at-requires-clause-term
defined_at-requires-clause-term c = term_grown c.args.history.now c.args.work.now c.row_fact.new.work c.args.t c.requires.stands c.row_fact.ensures.grows c.requires.term

pub returns-in-Some-clause-grows : goal.returns-in-Some-clause-grows
returns-in-Some-clause-grows c = (WorkGrows-trans c.args.history.now c.args.work.now c.row_fact.new.work c.defined_at.new.work c.row_fact.ensures.grows c.defined_at.ensures.grows)
