use Rattle.std.proofs.Common.{subst}
use Rattle.std.specs.Prelude.{IfSome}
use Rattle.nq_kernel.proofs.GrowingLemmas.{WorkGrows-trans}
use Rattle.nq_lines.proofs.TermLemmas.{term_grown}
use Rattle.nq_reduce.specs.Clauses.{LineIsIn}
use Rattle.nq_reduce.proofs.parted.parted_row.Goals as goal

pub line_about-requires-clause-line : goal.line_about-requires-clause-line
line_about-requires-clause-line c = subst (λ o. IfSome o (LineIsIn c.args.history.now c.row_of.new.work)) c.in-Some.is c.in_ok-line.ensures.line

pub line_about-requires-clause-term : goal.line_about-requires-clause-term
line_about-requires-clause-term c = term_grown c.args.history.now c.args.work.now c.row_of.new.work c.args.t c.requires.stands c.row_of.ensures.grows c.requires.term

pub returns-in-Some-clause-grows : goal.returns-in-Some-clause-grows
returns-in-Some-clause-grows c = WorkGrows-trans c.args.history.now c.args.work.now c.row_of.new.work c.line_about.new.work c.row_of.ensures.grows c.line_about.ensures.grows
