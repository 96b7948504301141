use Rattle.nq_bank.specs.Content.{term_at, terms_at}
use Rattle.nq_kernel.proofs.GrowingLemmas.{WorkGrows-trans}
use Rattle.nq_lines.proofs.LineLemmas.{line_grown, only_stands}
use Rattle.nq_lines.proofs.TermLemmas.{term_grown}
use Rattle.nq_reduce.proofs.StepLemmas.{contradicted_line}
use Rattle.nq_reduce.proofs.distinct.contradicted.Goals as goal

pub from_equal_false-requires-clause-term : goal.from_equal_false-requires-clause-term
from_equal_false-requires-clause-term c = c.requires.fact.term

pub from_equal_false-requires-clause-line : goal.from_equal_false-requires-clause-line
from_equal_false-requires-clause-line c = only_stands c.args.work.now c.args.n _ c.requires.new

pub cut-requires-clause-first : goal.cut-requires-clause-first
cut-requires-clause-first c = line_grown c.args.history.now c.args.work.now c.from_equal_false.new.work c.args.fact.line c.requires.can.stands c.from_equal_false.ensures.grows (only_stands c.args.work.now c.args.fact.line _ c.requires.fact.line)

pub cut-requires-clause-term : goal.cut-requires-clause-term
cut-requires-clause-term c = term_grown c.args.history.now c.args.work.now c.from_equal_false.new.work c.args.fact.term c.requires.can.stands c.from_equal_false.ensures.grows c.requires.fact.term

pub returns-clause-line : goal.returns-clause-line
returns-clause-line c = contradicted_line c.args.history.now c.args.work.now c.from_equal_false.new.work c.cut.new.work (terms_at c.args.work.now.bank c.args.assumed.now) (term_at c.args.work.now.bank c.args.t) c.args.fact c.args.n c.in_ok-denied.denied c.cut.result c.requires.can.stands c.from_equal_false.ensures.grows c.requires.fact c.requires.new c.in_ok-denied.ensures.line c.cut.ensures.line

pub returns-clause-grows : goal.returns-clause-grows
returns-clause-grows c = (WorkGrows-trans c.args.history.now c.args.work.now c.from_equal_false.new.work c.cut.new.work c.from_equal_false.ensures.grows c.cut.ensures.grows)
