use Rattle.std.proofs.Common.{get_or}
use Rattle.nq_bank.specs.declared.node.TermId.{TermId}
use Rattle.nq_kernel.proofs.GrowingLemmas.{WorkGrows-refl, WorkGrows-trans}
use Rattle.nq_lines.proofs.TermLemmas.{term_grown}
use Rattle.nq_arithmetic.proofs.Lemmas.{all_grown}
use Rattle.nq_arithmetic.proofs.hypotheses.are_parts_met.Goals as goal

pub loop-part-init : goal.loop-part-init
loop-part-init c = WorkGrows-refl c.args.history.now c.args.work.now c.requires.stands

pub is_part_met_too-requires-clause-stands : goal.is_part_met_too-requires-clause-stands
is_part_met_too-requires-clause-stands c = c.loop-part.invariant.stands

pub is_part_met_too-requires-clause-literals : goal.is_part_met_too-requires-clause-literals
is_part_met_too-requires-clause-literals c = all_grown c.args.history.now c.args.work.now c.loop-part.work c.requires.stands c.loop-part.invariant c.args.literals.now c.requires.literals

pub is_part_met_too-requires-clause-part : goal.is_part_met_too-requires-clause-part
is_part_met_too-requires-clause-part c = let d : TermId = record { 0 = 0 } in term_grown c.args.history.now c.args.work.now c.loop-part.work (get_or c.args.parts.now c.loop-part.part-index d) c.requires.stands c.loop-part.invariant (c.requires.parts c.loop-part.part-index d c.loop-part-test.true)

pub returns-in_err-met-clause-grows : goal.returns-in_err-met-clause-grows
returns-in_err-met-clause-grows c = WorkGrows-trans c.args.history.now c.args.work.now c.loop-part.work c.is_part_met_too.new.work c.loop-part.invariant c.is_part_met_too.ensures.grows

pub loop-part-preserved : goal.loop-part-preserved
loop-part-preserved c = WorkGrows-trans c.args.history.now c.args.work.now c.loop-part.work c.is_part_met_too.new.work c.loop-part.invariant c.is_part_met_too.ensures.grows
