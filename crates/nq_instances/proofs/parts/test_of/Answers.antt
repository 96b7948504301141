use Rattle.std.proofs.Common.{◌∷◌, []}
use Rattle.nq_logic.specs.Words.{equal_term, if_term}
use Rattle.nq_bank.specs.Content.{term_at}
use Rattle.nq_kernel.proofs.GrowingLemmas.{WorkGrows-trans}
use Rattle.nq_lines.proofs.LineLemmas.{line_grown, only_stands}
use Rattle.nq_lines.proofs.TermLemmas.{term_grown}
use Rattle.nq_instances.proofs.PartLemmas.{test_line}
use Rattle.nq_instances.proofs.parts.test_of.Goals as goal

pub from_equal_false-requires-clause-term : goal.from_equal_false-requires-clause-term
from_equal_false-requires-clause-term c = term_grown c.args.history.now c.args.work.now c.second_chosen.new.work c.args.fact.term c.requires.stands c.second_chosen.ensures.grows c.requires.fact.term

pub from_equal_false-requires-clause-line : goal.from_equal_false-requires-clause-line
from_equal_false-requires-clause-line c = only_stands c.second_chosen.new.work c.in_ok-law.law (term_at c.args.work.now.bank c.args.parts.test ∷ equal_term (if_term (term_at c.args.work.now.bank c.args.parts.test) (term_at c.args.work.now.bank c.args.parts.first) (term_at c.args.work.now.bank c.args.parts.second)) (term_at c.args.work.now.bank c.args.parts.second) ∷ []) c.in_ok-law.ensures.line

pub returns-in_err-denial-clause-grows : goal.returns-in_err-denial-clause-grows
returns-in_err-denial-clause-grows c = (WorkGrows-trans c.args.history.now c.args.work.now c.second_chosen.new.work c.from_equal_false.new.work c.second_chosen.ensures.grows c.from_equal_false.ensures.grows)

pub cut-requires-clause-first : goal.cut-requires-clause-first
cut-requires-clause-first c = line_grown c.args.history.now c.args.work.now c.from_equal_false.new.work c.args.fact.line c.requires.stands (WorkGrows-trans c.args.history.now c.args.work.now c.second_chosen.new.work c.from_equal_false.new.work c.second_chosen.ensures.grows c.from_equal_false.ensures.grows) c.requires.fact.line

pub cut-requires-clause-term : goal.cut-requires-clause-term
cut-requires-clause-term c = term_grown c.args.history.now c.args.work.now c.from_equal_false.new.work c.args.fact.term c.requires.stands (WorkGrows-trans c.args.history.now c.args.work.now c.second_chosen.new.work c.from_equal_false.new.work c.second_chosen.ensures.grows c.from_equal_false.ensures.grows) c.requires.fact.term

pub returns-in_err-line-clause-grows : goal.returns-in_err-line-clause-grows
returns-in_err-line-clause-grows c = (WorkGrows-trans c.args.history.now c.args.work.now c.second_chosen.new.work c.cut.new.work c.second_chosen.ensures.grows (WorkGrows-trans c.args.history.now c.second_chosen.new.work c.from_equal_false.new.work c.cut.new.work c.from_equal_false.ensures.grows c.cut.ensures.grows))

pub returns-clause-fact : goal.returns-clause-fact
returns-clause-fact c = test_line c.args.history.now c.args.work.now c.second_chosen.new.work c.from_equal_false.new.work c.cut.new.work c.args.fact c.args.parts c.in_ok-law.law c.in_ok-denial.denial c.in_ok-line.line c.requires.stands c.second_chosen.ensures.grows c.from_equal_false.ensures.grows c.cut.ensures.grows (WorkGrows-trans c.args.history.now c.args.work.now c.second_chosen.new.work c.cut.new.work c.second_chosen.ensures.grows (WorkGrows-trans c.args.history.now c.second_chosen.new.work c.from_equal_false.new.work c.cut.new.work c.from_equal_false.ensures.grows c.cut.ensures.grows)) c.requires.fact c.requires.parts c.requires.otherwise c.in_ok-law.ensures.line c.in_ok-denial.ensures.line c.in_ok-line.ensures.line c.in_ok-line.ensures.stands

pub returns-clause-grows : goal.returns-clause-grows
returns-clause-grows c = (WorkGrows-trans c.args.history.now c.args.work.now c.second_chosen.new.work c.cut.new.work c.second_chosen.ensures.grows (WorkGrows-trans c.args.history.now c.second_chosen.new.work c.from_equal_false.new.work c.cut.new.work c.from_equal_false.ensures.grows c.cut.ensures.grows))
