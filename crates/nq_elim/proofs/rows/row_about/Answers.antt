use Rattle.nq_kernel.proofs.GrowingLemmas.{WorkGrows-refl, WorkGrows-trans}
use Rattle.nq_lines.proofs.TermLemmas.{term_grown}
use Rattle.nq_elim.proofs.rows.row_about.Goals as goal

pub returns-in_err-has_row-clause-grows : goal.returns-in_err-has_row-clause-grows
returns-in_err-has_row-clause-grows c = WorkGrows-refl c.args.history.now c.args.work.now c.requires.stands

pub line_about-requires-clause-term : goal.line_about-requires-clause-term
line_about-requires-clause-term c = term_grown c.args.history.now c.args.work.now c.found_row.new.work c.args.t c.requires.stands c.found_row.ensures.grows c.requires.term

pub returns-in_ok-line-clause-grows : goal.returns-in_ok-line-clause-grows
returns-in_ok-line-clause-grows c = WorkGrows-trans c.args.history.now c.args.work.now c.found_row.new.work c.line_about.new.work c.found_row.ensures.grows c.line_about.ensures.grows

pub returns-else-branch-clause-grows : goal.returns-else-branch-clause-grows
returns-else-branch-clause-grows c = WorkGrows-refl c.args.history.now c.args.work.now c.requires.stands
