use Rattle.std.proofs.Common.{subst}
use Rattle.std.specs.Prelude.{IfSome}
use Rattle.nq_kernel.specs.Growing.{LineStands}
use Rattle.nq_kernel.proofs.GrowingLemmas.{WorkGrows-refl, WorkGrows-trans}
use Rattle.nq_arithmetic.proofs.Lemmas.{all_grown, assumptions_grown, goal_same, found_of}
use Rattle.nq_arithmetic.proofs.arithmetic.with_facts.Goals as goal

pub returns-in_err-literals-clause-grows : goal.returns-in_err-literals-clause-grows
returns-in_err-literals-clause-grows c = WorkGrows-refl c.args.history.now c.args.work.now c.requires.stands

pub finished-requires-clause-goal : goal.finished-requires-clause-goal
finished-requires-clause-goal c = all_grown c.args.history.now c.args.work.now c.refuted.new.work c.requires.stands c.refuted.ensures.grows c.args.goal.now c.requires.goal

pub finished-requires-clause-assumptions : goal.finished-requires-clause-assumptions
finished-requires-clause-assumptions c = assumptions_grown c.args.history.now c.args.work.now c.refuted.new.work c.requires.stands c.refuted.ensures.grows c.args.assumptions.now c.requires.assumptions

pub finished-requires-clause-line : goal.finished-requires-clause-line
finished-requires-clause-line c = subst (λ o. IfSome o (λ n. LineStands c.refuted.new.work n)) c.in-Some.is c.in_ok-line.ensures.line

pub returns-in-Some-clause-line : goal.returns-in-Some-clause-line
returns-in-Some-clause-line c = found_of c.finished.result c.finished.new.work _ _ (goal_same c.args.history.now c.args.work.now c.refuted.new.work c.requires.stands c.refuted.ensures.grows c.args.goal.now c.requires.goal) c.finished.ensures.line

pub returns-in-Some-clause-grows : goal.returns-in-Some-clause-grows
returns-in-Some-clause-grows c = (WorkGrows-trans c.args.history.now c.args.work.now c.refuted.new.work c.finished.new.work c.refuted.ensures.grows c.finished.ensures.grows)

pub by_equations-requires-clause-goal : goal.by_equations-requires-clause-goal
by_equations-requires-clause-goal c = all_grown c.args.history.now c.args.work.now c.refuted.new.work c.requires.stands c.refuted.ensures.grows c.args.goal.now c.requires.goal

pub by_equations-requires-clause-assumptions : goal.by_equations-requires-clause-assumptions
by_equations-requires-clause-assumptions c = assumptions_grown c.args.history.now c.args.work.now c.refuted.new.work c.requires.stands c.refuted.ensures.grows c.args.assumptions.now c.requires.assumptions

pub returns-clause-line : goal.returns-clause-line
returns-clause-line c = found_of c.by_equations.result c.by_equations.new.work _ _ (goal_same c.args.history.now c.args.work.now c.refuted.new.work c.requires.stands c.refuted.ensures.grows c.args.goal.now c.requires.goal) c.by_equations.ensures.line

pub returns-clause-grows : goal.returns-clause-grows
returns-clause-grows c = (WorkGrows-trans c.args.history.now c.args.work.now c.refuted.new.work c.by_equations.new.work c.refuted.ensures.grows c.by_equations.ensures.grows)
