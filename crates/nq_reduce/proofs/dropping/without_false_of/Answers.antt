use Rattle.nq_bank.specs.Content.{term_at, terms_at}
use Rattle.nq_kernel.proofs.GrowingLemmas.{WorkGrows-trans, WorkGrows-refl}
use Rattle.nq_lines.proofs.LineLemmas.{line_grown, only_stands}
use Rattle.nq_lines.proofs.TermLemmas.{term_grown}
use Rattle.nq_reduce.proofs.DroppingLemmas.{dropped_equation}
use Rattle.nq_reduce.proofs.dropping.without_false_of.Goals as goal

pub returns-else-known-clause-grows : goal.returns-else-known-clause-grows
returns-else-known-clause-grows c = WorkGrows-refl c.args.history.now c.args.work.now c.requires.can.stands

pub cut-requires-clause-first : goal.cut-requires-clause-first
cut-requires-clause-first c = line_grown c.args.history.now c.args.work.now c.from_equal_false.new.work c.args.known.line c.requires.can.stands c.from_equal_false.ensures.grows (only_stands c.args.work.now c.args.known.line _ c.requires.known.shown)

pub cut-requires-clause-term : goal.cut-requires-clause-term
cut-requires-clause-term c = term_grown c.args.history.now c.args.work.now c.from_equal_false.new.work c.args.p c.requires.can.stands c.from_equal_false.ensures.grows c.requires.part

pub returns-in_ok-n-clause-line : goal.returns-in_ok-n-clause-line
returns-in_ok-n-clause-line c = dropped_equation c.args.history.now c.args.work.now c.from_equal_false.new.work c.cut.new.work (terms_at c.args.work.now.bank c.args.assumed.now) (term_at c.args.work.now.bank c.args.t) c.args.p c.args.known c.args.line c.in_ok-denied.denied c.in_ok-n.n c.requires.can.stands c.from_equal_false.ensures.grows c.requires.part c.requires.says c.if-known.true c.requires.known c.in_ok-denied.ensures.line c.in_ok-n.ensures.line

pub returns-in_err-n-clause-grows : goal.returns-in_err-n-clause-grows
returns-in_err-n-clause-grows c = (WorkGrows-trans c.args.history.now c.args.work.now c.from_equal_false.new.work c.cut.new.work c.from_equal_false.ensures.grows c.cut.ensures.grows)

pub returns-in_ok-n-clause-grows : goal.returns-in_ok-n-clause-grows
returns-in_ok-n-clause-grows c = (WorkGrows-trans c.args.history.now c.args.work.now c.from_equal_false.new.work c.cut.new.work c.from_equal_false.ensures.grows c.cut.ensures.grows)
