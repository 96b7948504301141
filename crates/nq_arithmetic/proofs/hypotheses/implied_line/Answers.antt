use Rattle.std.proofs.Common.{subst, sym}
use Rattle.std.specs.Prelude.{All}
use Rattle.nq_kernel.proofs.GrowingLemmas.{WorkGrows-refl, WorkGrows-trans}
use Rattle.nq_lines.proofs.TermLemmas.{term_grown}
use Rattle.nq_lines.specs.Lines.{IsTermIn}
use Rattle.nq_arithmetic.proofs.Lemmas.{all_grown, line_later}
use Rattle.nq_arithmetic.proofs.hypotheses.implied_line.Goals as goal

pub returns-in_err-parts-clause-grows : goal.returns-in_err-parts-clause-grows
returns-in_err-parts-clause-grows c = WorkGrows-refl c.args.history.now c.args.work.now c.requires.stands

pub cut-requires-clause-first : goal.cut-requires-clause-first
cut-requires-clause-first c = line_later c.args.history.now c.args.work.now c.law_at.new.work c.requires.stands c.law_at.ensures.grows c.args.fact.line c.requires.fact.line

pub cut-requires-clause-term : goal.cut-requires-clause-term
cut-requires-clause-term c = term_grown c.args.history.now c.args.work.now c.law_at.new.work c.args.fact.term c.requires.stands c.law_at.ensures.grows c.requires.fact.term

pub returns-in_err-line-clause-grows : goal.returns-in_err-line-clause-grows
returns-in_err-line-clause-grows c = WorkGrows-trans c.args.history.now c.args.work.now c.law_at.new.work c.cut.new.work c.law_at.ensures.grows c.cut.ensures.grows

pub without_parts-requires-clause-literals : goal.without_parts-requires-clause-literals
without_parts-requires-clause-literals c = all_grown c.args.history.now c.args.work.now c.cut.new.work c.requires.stands (WorkGrows-trans c.args.history.now c.args.work.now c.law_at.new.work c.cut.new.work c.law_at.ensures.grows c.cut.ensures.grows) c.args.literals.now c.requires.literals

pub without_parts-requires-clause-parts : goal.without_parts-requires-clause-parts
without_parts-requires-clause-parts c = all_grown c.args.history.now c.args.work.now c.cut.new.work c.requires.stands (WorkGrows-trans c.args.history.now c.args.work.now c.law_at.new.work c.cut.new.work c.law_at.ensures.grows c.cut.ensures.grows) c.as_slice.result.now (subst (All (IsTermIn c.args.history.now c.args.work.now)) (sym c.as_slice.ensures.value) c.in_ok-parts.ensures.parts)

pub returns-clause-grows : goal.returns-clause-grows
returns-clause-grows c = WorkGrows-trans c.args.history.now c.args.work.now c.cut.new.work c.without_parts.new.work (WorkGrows-trans c.args.history.now c.args.work.now c.law_at.new.work c.cut.new.work c.law_at.ensures.grows c.cut.ensures.grows) c.without_parts.ensures.grows
