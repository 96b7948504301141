use Rattle.nq_kernel.proofs.GrowingLemmas.{WorkGrows-trans}
use Rattle.nq_lines.proofs.TermLemmas.{term_grown}
use Rattle.nq_arithmetic.proofs.Lemmas.{line_later}
use Rattle.nq_arithmetic.proofs.hypotheses.cut_by_law.Goals as goal

pub cut-requires-clause-second : goal.cut-requires-clause-second
cut-requires-clause-second c = line_later c.args.history.now c.args.work.now c.law_at.new.work c.requires.stands c.law_at.ensures.grows c.args.line c.requires.line

pub cut-requires-clause-term : goal.cut-requires-clause-term
cut-requires-clause-term c = term_grown c.args.history.now c.args.work.now c.law_at.new.work c.args.t c.requires.stands c.law_at.ensures.grows c.requires.term

pub returns-clause-grows : goal.returns-clause-grows
returns-clause-grows c = WorkGrows-trans c.args.history.now c.args.work.now c.law_at.new.work c.cut.new.work c.law_at.ensures.grows c.cut.ensures.grows
