use Rattle.std.proofs.Common.{get_or}
use Rattle.nq_bank.specs.declared.node.TermId.{TermId}
use Rattle.nq_kernel.proofs.GrowingLemmas.{WorkGrows-refl, WorkGrows-trans}
use Rattle.nq_lines.proofs.TermLemmas.{term_grown}
use Rattle.nq_arithmetic.proofs.Lemmas.{all_grown}
use Rattle.nq_arithmetic.proofs.hypotheses.without_parts.Goals as goal

pub loop-part-init : goal.loop-part-init
loop-part-init c = record { grows = WorkGrows-refl c.args.history.now c.args.work.now c.requires.stands; line = c.requires.line }

pub without_part-requires-clause-stands : goal.without_part-requires-clause-stands
without_part-requires-clause-stands c = c.loop-part.invariant.grows.stands

pub without_part-requires-clause-literals : goal.without_part-requires-clause-literals
without_part-requires-clause-literals c = all_grown c.args.history.now c.args.work.now c.loop-part.work c.requires.stands c.loop-part.invariant.grows c.args.literals.now c.requires.literals

pub without_part-requires-clause-part : goal.without_part-requires-clause-part
without_part-requires-clause-part c = let d : TermId = record { 0 = 0 } in term_grown c.args.history.now c.args.work.now c.loop-part.work (get_or c.args.parts.now c.loop-part.part-index d) c.requires.stands c.loop-part.invariant.grows (c.requires.parts c.loop-part.part-index d c.loop-part-test.true)

pub without_part-requires-clause-line : goal.without_part-requires-clause-line
without_part-requires-clause-line c = c.loop-part.invariant.line

pub returns-in_err-last-clause-grows : goal.returns-in_err-last-clause-grows
returns-in_err-last-clause-grows c = WorkGrows-trans c.args.history.now c.args.work.now c.loop-part.work c.without_part.new.work c.loop-part.invariant.grows c.without_part.ensures.grows

pub loop-part-preserved : goal.loop-part-preserved
loop-part-preserved c = record { grows = WorkGrows-trans c.args.history.now c.args.work.now c.loop-part.work c.without_part.new.work c.loop-part.invariant.grows c.without_part.ensures.grows; line = c.in_ok-last.ensures.line }
