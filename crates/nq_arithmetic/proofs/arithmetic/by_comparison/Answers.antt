use Rattle.std.proofs.Common.{subst, sym}
use Rattle.std.specs.Prelude.{All}
use Rattle.nq_kernel.proofs.GrowingLemmas.{WorkGrows-refl, WorkGrows-trans}
use Rattle.nq_lines.specs.Lines.{IsTermIn}
use Rattle.nq_arithmetic.proofs.Lemmas.{all_grown, operands_grown, assumptions_grown, goal_same, found_of}
use Rattle.nq_arithmetic.proofs.arithmetic.by_comparison.Goals as goal

pub returns-in_err-literals-clause-grows : goal.returns-in_err-literals-clause-grows
returns-in_err-literals-clause-grows c = WorkGrows-refl c.args.history.now c.args.work.now c.requires.stands

pub are_met-requires-clause-literals : goal.are_met-requires-clause-literals
are_met-requires-clause-literals c = (subst (All (IsTermIn c.args.history.now c.args.work.now)) (sym c.as_slice.ensures.value) c.in_ok-literals.ensures.literals)

pub fact_line-requires-clause-literals : goal.fact_line-requires-clause-literals
fact_line-requires-clause-literals c = all_grown c.args.history.now c.args.work.now c.are_met.new.work c.requires.stands c.are_met.ensures.grows c.as_slice-then-branch.result.now (subst (All (IsTermIn c.args.history.now c.args.work.now)) (sym c.as_slice-then-branch.ensures.value) c.in_ok-literals.ensures.literals)

pub fact_line-requires-clause-at : goal.fact_line-requires-clause-at
fact_line-requires-clause-at c = operands_grown c.args.history.now c.args.work.now c.are_met.new.work c.requires.stands c.are_met.ensures.grows c.args.at c.requires.at

pub finished-requires-clause-goal : goal.finished-requires-clause-goal
finished-requires-clause-goal c = all_grown c.args.history.now c.args.work.now c.fact_line.new.work c.requires.stands (WorkGrows-trans c.args.history.now c.args.work.now c.are_met.new.work c.fact_line.new.work c.are_met.ensures.grows c.fact_line.ensures.grows) c.args.goal.now c.requires.goal

pub finished-requires-clause-assumptions : goal.finished-requires-clause-assumptions
finished-requires-clause-assumptions c = assumptions_grown c.args.history.now c.args.work.now c.fact_line.new.work c.requires.stands (WorkGrows-trans c.args.history.now c.args.work.now c.are_met.new.work c.fact_line.new.work c.are_met.ensures.grows c.fact_line.ensures.grows) c.args.assumptions.now c.requires.assumptions

pub returns-in_err-line-clause-grows : goal.returns-in_err-line-clause-grows
returns-in_err-line-clause-grows c = (WorkGrows-trans c.args.history.now c.args.work.now c.are_met.new.work c.fact_line.new.work c.are_met.ensures.grows c.fact_line.ensures.grows)

pub returns-then-branch-clause-line : goal.returns-then-branch-clause-line
returns-then-branch-clause-line c = found_of c.finished.result c.finished.new.work _ _ (goal_same c.args.history.now c.args.work.now c.fact_line.new.work c.requires.stands (WorkGrows-trans c.args.history.now c.args.work.now c.are_met.new.work c.fact_line.new.work c.are_met.ensures.grows c.fact_line.ensures.grows) c.args.goal.now c.requires.goal) c.finished.ensures.line

pub returns-then-branch-clause-grows : goal.returns-then-branch-clause-grows
returns-then-branch-clause-grows c = (WorkGrows-trans c.args.history.now c.args.work.now c.are_met.new.work c.finished.new.work c.are_met.ensures.grows (WorkGrows-trans c.args.history.now c.are_met.new.work c.fact_line.new.work c.finished.new.work c.fact_line.ensures.grows c.finished.ensures.grows))
