use Rattle.nq_kernel.proofs.GrowingLemmas.{WorkGrows-trans}
use Rattle.nq_lines.proofs.TermLemmas.{term_grown}
use Rattle.nq_lines.proofs.FactLemmas.{opening_before}
use Rattle.nq_lines.proofs.openings.opening_by.Goals as goal

pub opening_of_row-requires-clause-term : goal.opening_of_row-requires-clause-term
opening_of_row-requires-clause-term c = term_grown c.args.history.now c.args.work.now c.row_fact.new.work c.args.t c.requires.stands c.row_fact.ensures.grows c.requires.term

pub returns-in-Some-clause-opening : goal.returns-in-Some-clause-opening
returns-in-Some-clause-opening c = opening_before c.args.history.now c.args.work.now c.row_fact.new.work c.row_fact.ensures.grows c.opening_of_row.new.work c.args.t c.opening_of_row.result c.requires.term c.opening_of_row.ensures.opening

pub returns-in-Some-clause-grows : goal.returns-in-Some-clause-grows
returns-in-Some-clause-grows c = WorkGrows-trans c.args.history.now c.args.work.now c.row_fact.new.work c.opening_of_row.new.work c.row_fact.ensures.grows c.opening_of_row.ensures.grows
