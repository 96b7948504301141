use Rattle.std.proofs.Common.{subst, sym}
use Rattle.std.specs.Prelude.{All}
use Rattle.nq_kernel.proofs.GrowingLemmas.{WorkGrows-refl}
use Rattle.nq_lines.specs.Lines.{IsTermIn}
use Rattle.nq_arithmetic.proofs.hypotheses.is_hypothesis_met.Goals as goal

pub returns-in_err-parts-clause-grows : goal.returns-in_err-parts-clause-grows
returns-in_err-parts-clause-grows c = WorkGrows-refl c.args.history.now c.args.work.now c.requires.stands

pub are_parts_met-requires-clause-parts : goal.are_parts_met-requires-clause-parts
are_parts_met-requires-clause-parts c = subst (All (IsTermIn c.args.history.now c.args.work.now)) (sym c.as_slice.ensures.value) c.in_ok-parts.ensures.parts
