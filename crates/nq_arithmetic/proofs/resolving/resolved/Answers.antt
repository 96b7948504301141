use Rattle.nq_kernel.proofs.GrowingLemmas.{WorkGrows-refl, WorkGrows-trans}
use Rattle.nq_arithmetic.proofs.Lemmas.{all_grown, assumptions_grown}
use Rattle.nq_arithmetic.proofs.resolving.resolved.Goals as goal

pub loop-done-init : goal.loop-done-init
loop-done-init c = record { grows = WorkGrows-refl c.args.history.now c.args.work.now c.requires.stands; line = c.requires.line }

pub without_place-requires-clause-stands : goal.without_place-requires-clause-stands
without_place-requires-clause-stands c = c.loop-done.invariant.grows.stands

pub without_place-requires-clause-goal : goal.without_place-requires-clause-goal
without_place-requires-clause-goal c = all_grown c.args.history.now c.args.work.now c.loop-done.work c.requires.stands c.loop-done.invariant.grows c.args.goal.now c.requires.goal

pub without_place-requires-clause-assumptions : goal.without_place-requires-clause-assumptions
without_place-requires-clause-assumptions c = assumptions_grown c.args.history.now c.args.work.now c.loop-done.work c.requires.stands c.loop-done.invariant.grows c.args.assumptions.now c.requires.assumptions

pub without_place-requires-clause-line : goal.without_place-requires-clause-line
without_place-requires-clause-line c = c.loop-done.invariant.line

pub returns-in_err-last-clause-grows : goal.returns-in_err-last-clause-grows
returns-in_err-last-clause-grows c = (WorkGrows-trans c.args.history.now c.args.work.now c.loop-done.work c.without_place.new.work c.loop-done.invariant.grows c.without_place.ensures.grows)

pub loop-done-preserved : goal.loop-done-preserved
loop-done-preserved c = record { grows = (WorkGrows-trans c.args.history.now c.args.work.now c.loop-done.work c.without_place.new.work c.loop-done.invariant.grows c.without_place.ensures.grows); line = c.in_ok-last.ensures.line }
